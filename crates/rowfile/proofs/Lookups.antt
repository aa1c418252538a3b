-- A lookup among entries whose numbers rise: at the place of a number, and where no entry has it. Assumes nothing.
use Rattle.std.proofs.Common.{◌≡◌, ◌≢◌, ℕ, zero, suc, ◌<◌, ◌≤◌, Bool, true, false, cond, eqb, ltb, List, [], ◌∷◌, length, get_or, Some, None, Option, Result, Ok, Err, MatchResult, IsTrue, ◌↔◌, nat_lt, sym, refl, ap, ◌∙◌, ap₂, suc-le-suc, zero-le, le_of_suc-le-suc, not-suc-le-zero, add-one, arith, le-ltb, lt-ltb, eq-eqb, eqb-true}
use Rattle.std.specs.List.{IsAllAdjacentAnswer}
use Rattle.std.specs.List.Sorted.{IsSearchInRange, IsBinarySearchResult, IsNonDecreasingBy}
use Rattle.std.specs.Ordering.{nat_cmp, ordering_index}
use Rattle.std.proofs.lemmas.Cmp.{ranked}
use Rattle.std.proofs.lemmas.List.Sorted.{IsNonDecreasingBy-from_all_adjacent}
use Rattle.std.proofs.lemmas.Bool.Decides.{nat_tests}
use Rattle.std.proofs.lemmas.Option.{none-some}
use Rattle.isa.specs.declared.row.Row.{Row}
use Rattle.rowfile.specs.Entries.{operation, row_of}
use Rattle.rowfile.specs.Files.{entries_map, Rising}

-- the answer at one entry: `b` that its number is below, `c` that it is the one sought
abbrev pub answer : Option Row → Option Row → Bool → Bool → Option Row
answer more here b c = cond b more (cond c here None)

-- as `Rising`, by successors
abbrev Rises : List (List ℕ) → Type 0
Rises es = (i : ℕ) → suc i < length es → operation (get_or es i []) < operation (get_or es (suc i) [])

rises : (es : List (List ℕ)) → Rising es → Rises es
rises es r i h = rw (← add-one i) (r i [] (rw add-one h))

first_below : (e : List ℕ) (es : List (List ℕ)) → Rises (e ∷ es) → (i : ℕ) → i < length es → operation e < operation (get_or es i [])
first_below e es r zero h = r 0 (suc-le-suc h)
first_below e es r (suc i) h = let one = first_below e es r i (omega arith) in let two = r (suc i) (suc-le-suc h) in omega arith

at_place : (es : List (List ℕ)) → Rises es → (n i : ℕ) → i < length es → operation (get_or es i []) ≡ n → entries_map es n ≡ row_of (get_or es i [])
at_place [] r n i h a = absurd (not-suc-le-zero h)
at_place (e ∷ es) r n zero h a = ap₂ (answer (entries_map es n) (row_of e)) (le-ltb (operation e) n (omega arith)) (eq-eqb (operation e) n a)
at_place (e ∷ es) r n (suc i) h a =
    let lt = first_below e es r i (le_of_suc-le-suc h) in
    ap (λ b. answer (entries_map es n) (row_of e) b (eqb (operation e) n)) (lt-ltb (operation e) n (omega arith))
    ∙ at_place es (λ k l. r (suc k) (suc-le-suc l)) n i (le_of_suc-le-suc h) a

-- at the place of a number its row is found
pub present : (es : List (List ℕ)) → Rising es → (n i : ℕ) → i < length es → operation (get_or es i []) ≡ n → entries_map es n ≡ row_of (get_or es i [])
present es r = at_place es (rises es r)

-- the entries list n with the row w
abbrev pub Listed : List (List ℕ) → ℕ → Row → Type 0
Listed es n w = (i : ℕ) × (i < length es) × (operation (get_or es i []) ≡ n) × (row_of (get_or es i []) ≡ Some w)

found_by : (e : List ℕ) (es : List (List ℕ)) (n : ℕ) (w : Row) (b c : Bool) → eqb (operation e) n ≡ c → (entries_map es n ≡ Some w → Listed es n w) → answer (entries_map es n) (row_of e) b c ≡ Some w → Listed (e ∷ es) n w
found_by e es n w true c q more f = let (i, h, a, r) = more f in (suc i, suc-le-suc h, a, r)
found_by e es n w false true q more f = (0, suc-le-suc zero-le, eqb-true _ _ q, f)
found_by e es n w false false q more f = absurd (none-some w f)

-- what is found is listed
pub found : (es : List (List ℕ)) (n : ℕ) (w : Row) → entries_map es n ≡ Some w → Listed es n w
found [] n w f = absurd (none-some w f)
found (e ∷ es) n w f = found_by e es n w (ltb (operation e) n) (eqb (operation e) n) refl (found es n w) f

-- a number that no entry has is not found
absent : (es : List (List ℕ)) (n : ℕ) → ((i : ℕ) → i < length es → operation (get_or es i []) ≢ n) → (o : Option Row) → entries_map es n ≡ o → o ≡ None
absent es n other None e = refl
absent es n other (Some w) e = let (i, h, a, f) = found es n w e in absurd (other i h a)

module _ (es : List (List ℕ)) (rising : Rising es) (n : ℕ) where
  -- the comparisons with n rise along the entries, as a binary search asks
  comparisons_rise : IsNonDecreasingBy (λ e. ordering_index (nat_cmp (operation e) n)) es
  comparisons_rise i j d le in_range =
      let up = IsNonDecreasingBy-from_all_adjacent operation es (λ k d h. native.Mathlib.Nat.le_of_lt (rising k d h)) i j d le in_range in
      grind (arith, nat_tests)

  -- what a binary search found is what the lookup gives
  pub searched : (r : Result ℕ ℕ) → IsSearchInRange r (length es) → IsBinarySearchResult (λ e. nat_cmp (operation e) n) es r → MatchResult r (λ i. entries_map es n ≡ row_of (get_or es i [])) (λ _. entries_map es n ≡ None)
  searched (Ok i) in_range equal = present es rising n i in_range (ranked _ n _ (sym (equal [])))
  searched (Err at) in_range parted =
      let parts = parted comparisons_rise in
      let before : (i : ℕ) → i < at → operation (get_or es i []) < n = λ i lt. ranked _ n _ (sym (parts.0 i [] (omega arith) lt)) in
      let after : (i : ℕ) → at ≤ i → i < length es → n < operation (get_or es i []) = λ i le lt. ranked _ n _ (sym (parts.1 i [] le lt)) in
      absent es n (λ i h same. grind (arith, before i, after i)) (entries_map es n) refl

-- neighbours that a test passes one by one, or not
pub rising_answer : (es : List (List ℕ)) (r : Bool) → IsAllAdjacentAnswer (λ d e b. b ≡ nat_lt (operation d) (operation e)) es r → IsTrue r ↔ Rising es
rising_answer es true each = (λ _ k d h. grind (arith, nat_tests, each k d h), λ _. refl)
rising_answer es false (k, h, fails) = (λ never. absurd (grind (arith, nat_tests)), λ r. absurd (grind (arith, nat_tests, r k [] h, fails [])))
