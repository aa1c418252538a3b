-- The claims of entries, and the first clash among them. Assumes nothing.
use Rattle.std.proofs.Common.{ℕ, ◌<◌, List, [], ◌∷◌, map, length, sym, subst₂, arith}
use Rattle.std.proofs.lemmas.List.{length-map, get_or-map}
use Rattle.claims.specs.Claims.{ClashAt, FreeFrom, FirstClash}

module _ {X Y : Type 0} (f : X → Y) (clash : Y → Y → Type 0) (es : List X) where
  -- entries clash where their claims do
  abbrev pub Meet : X → X → Type 0
  Meet x y = clash (f x) (f y)

  module _ (a b : ℕ) (ha : a < length es) (hb : b < length es) where
    meet_of : ClashAt clash (map f es) a b → ClashAt Meet es a b
    meet_of h d = subst₂ clash (get_or-map f es a d (f d) ha) (get_or-map f es b d (f d) hb) (h (f d))

    clash_of : X → ClashAt Meet es a b → ClashAt clash (map f es) a b
    clash_of x h d = subst₂ clash (sym (get_or-map f es a x d ha)) (sym (get_or-map f es b x d hb)) (h x)

  -- some entry, since there is one
  some_entry : (n : ℕ) → n < length es → X
  some_entry n h = at_place es n h
    where
      at_place : (xs : List X) (k : ℕ) → k < length xs → X
      at_place [] k h = absurd (omega arith)
      at_place (x ∷ xs) k h = x

  pub free_of : (low : ℕ) → FreeFrom clash (map f es) low (length (map f es)) → FreeFrom Meet es low (length es)
  free_of low free b le h a lt at =
      let n = length-map es f in free b le (omega arith) a lt (clash_of a b (omega arith) h (some_entry b h) at)

  pub first_of : (low a b : ℕ) → FirstClash clash (map f es) low a b → FirstClash Meet es low a b
  first_of low a b p =
      let n = length-map es f in
      let inside : b < length es = let i = p.inside in omega arith in
      let ordered = p.ordered in
      record {
        reached = p.reached;
        inside = inside;
        ordered = ordered;
        clashing = meet_of a b (omega arith) inside p.clashing;
        least = λ k le h j lt at. p.least k le h j lt (clash_of j k (omega arith) (omega arith) (some_entry b inside) at);
        first = λ j lt at. p.first j lt (clash_of j b (omega arith) inside (some_entry b inside) at);
      }
