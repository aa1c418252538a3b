-- Tests of the constraints 11 to 19: of a clash at two places, of counts, and of the packet as a whole.
-- Assumes nothing.
use Rattle.std.proofs.Common.{◌≡◌, ℕ, ◌+◌, ◌<◌, ◌≤◌, true, ◌&&◌, leb, ◌⊎◌, List, [], ◌∷◌, ◌++◌, length, get_or, Some, None, sum_by, Option, sym, subst, inl, inr, ⊎_elim, arith}
use Rattle.std.specs.List.{slice_get}
use mathlib.Core.Logic.{⊎_map}
use Rattle.std.proofs.lemmas.List.{length-append}
use Rattle.std.proofs.lemmas.Bool.{and_parts, and_from, leb-true, le-leb}
use Rattle.isa.specs.declared.register.Register.{Register}
use Rattle.isa.specs.declared.unit.Side.{Side}
use Rattle.isa.specs.declared.unit.Side.TheVariants.{A, B}
use Rattle.admission.specs.declared.instruction.Instruction.{Instruction}
use Rattle.admission.specs.Operands.{read_places}
use Rattle.runs.specs.declared.valuations.Valuations.{Valuations}
use Rattle.claims.specs.Landings.{port_claim, SamePort}
use Rattle.hazards.specs.Counts.{cross_use, CrossExcess, mentions, ReadExcess, ExcessAt}
use Rattle.hazards.proofs.Finding.{excess_found}
use Rattle.constraints.specs.Schedules.{cycles, issue}
use Rattle.constraints.specs.Constraints.{WriteTogether, PerformsBoth, Beside, ClashAt, Breaks}
use Rattle.constraints.proofs.Moving.{at_inside, at_some}
use Rattle.decision.proofs.Deciding.{Test, like, both, all_three, either, lacks, equal, less, never, given, Somewhere, some, Below, below}
use Rattle.decision.proofs.Clashing.{beside, same_port}
use Rattle.decision.proofs.Landing.{write_together}
use Rattle.decision.proofs.Running.{performs, performs_decides}

-- ---- counts

pub by_side : (xs : List Instruction) (s : Side) → 2 < sum_by (cross_use s) xs → (2 < sum_by (cross_use A) xs) ⊎ (2 < sum_by (cross_use B) xs)
by_side xs A h = inl h
by_side xs B h = inr h

abbrev pub cross_excess : (xs : List Instruction) → Test (CrossExcess xs)
cross_excess xs =
    like (⊎_elim (λ h. (A, h)) (λ h. (B, h))) (λ (s, h). by_side xs s h) (either (less 2 (sum_by (cross_use A) xs)) (less 2 (sum_by (cross_use B) xs)))

abbrev pub excess_at : (xs : List Instruction) (o : Option Register) → Test (ExcessAt xs o)
excess_at xs None = never (λ h. h)
excess_at xs (Some r) = less 4 (sum_by (mentions r) xs)

abbrev pub AtRead : List Instruction → ℕ → Instruction → Type 0
AtRead xs k x = Below (λ j. ExcessAt xs (get_or (read_places x) j None)) 6

pub read_there : (xs : List Instruction) (o : Option Register) → ExcessAt xs o → ReadExcess xs
read_there xs None h = absurd h
read_there xs (Some r) h = (r, h)

pub read_back : (xs : List Instruction) → ReadExcess xs → Somewhere (AtRead xs) xs
read_back xs e = let (x, k, hk, same, j, hj, p) = excess_found xs e in (k, x, at_some xs k x x hk (same x), (j, hj, p))

abbrev pub read_excess : (xs : List Instruction) → Test (ReadExcess xs)
read_excess xs =
    like (λ (k, x, e, (j, h, p)). read_there xs (get_or (read_places x) j None) p) (read_back xs)
    (some (AtRead xs) (λ k x. below (λ j. ExcessAt xs (get_or (read_places x) j None)) (λ j. excess_at xs (get_or (read_places x) j None)) 6) xs)

-- ---- a clash at two places

-- the packet is one of those before, or the one behind, and some run performs both
abbrev pub Performed : Valuations → Valuations → List (List Instruction) → ℕ → Instruction → Instruction → Type 0
Performed lawful start past k x y = (k ≤ length past) × PerformsBoth lawful start past k x y

abbrev pub Clashing : Valuations → Valuations → List (List Instruction) → ℕ → ℕ → Instruction → Instruction → Type 0
Clashing lawful start past n k x y =
    ((k ≡ length past) × Beside n x y)
    ⊎ (((n ≡ 18) × SamePort (port_claim x (issue past k)) (port_claim y (cycles past))) ⊎ ((n ≡ 19) × WriteTogether x (issue past k) y (cycles past) × Performed lawful start past k x y))

pub performed_there : (lawful start : Valuations) (past : List (List Instruction)) (k : ℕ) (x y : Instruction)
    → (leb k (length past) && performs lawful start past k x.condition y.condition) ≡ true → Performed lawful start past k x y
performed_there lawful start past k x y e =
    let (a, b) = and_parts (leb k (length past)) (performs lawful start past k x.condition y.condition) e in
    let h = leb-true k (length past) a in
    (h, (performs_decides lawful start past k x y h).0 b)

pub performed_back : (lawful start : Valuations) (past : List (List Instruction)) (k : ℕ) (x y : Instruction)
    → Performed lawful start past k x y → (leb k (length past) && performs lawful start past k x.condition y.condition) ≡ true
performed_back lawful start past k x y (h, p) =
    and_from (leb k (length past)) (performs lawful start past k x.condition y.condition) (le-leb k (length past) h) ((performs_decides lawful start past k x y h).1 p)

abbrev pub performed : (lawful start : Valuations) (past : List (List Instruction)) (k : ℕ) (x y : Instruction) → Test (Performed lawful start past k x y)
performed lawful start past k x y = record {
  passes = leb k (length past) && performs lawful start past k x.condition y.condition;
  decides = (performed_there lawful start past k x y, performed_back lawful start past k x y);
}

abbrev pub clashing : (lawful start : Valuations) (past : List (List Instruction)) (n k : ℕ) (x y : Instruction) → Test (Clashing lawful start past n k x y)
clashing lawful start past n k x y =
    either (both (equal k (length past)) (beside n x y))
    (either (both (equal n 18) (same_port (port_claim x (issue past k)) (port_claim y (cycles past))))
    (all_three (equal n 19) (write_together x (issue past k) y (cycles past)) (performed lawful start past k x y)))

-- the places differ, and what stands there clashes
abbrev pub Apart : Valuations → Valuations → List (List Instruction) → ℕ → ℕ → ℕ → ℕ → Instruction → Instruction → Type 0
Apart lawful start past n k s t x y = ((k ≡ length past) × (s ≡ t) → ⊥) × Clashing lawful start past n k x y

abbrev pub At : Valuations → Valuations → List (List Instruction) → List Instruction → ℕ → ℕ → ℕ → ℕ → Type 0
At lawful start past xs n k s t =
    (p : List Instruction) × (slice_get (past ++ xs ∷ []) k ≡ Some p)
    × ((x : Instruction) × (slice_get p s ≡ Some x) × ((y : Instruction) × (slice_get xs t ≡ Some y) × Apart lawful start past n k s t x y))

-- how many slots a packet has, if there is one
abbrev pub slots_of : Option (List Instruction) → ℕ
slots_of None = 0
slots_of (Some p) = length p

abbrev pub slots_at : List (List Instruction) → List Instruction → ℕ → ℕ
slots_at past xs k = slots_of (slice_get (past ++ xs ∷ []) k)

module _ (lawful start : Valuations) (past : List (List Instruction)) (xs : List Instruction) (n k s t : ℕ) where
  pub clash_packet : ClashAt lawful start past xs n k s t → k < length past + 1
  clash_packet (x, y, (p, e, here), there, apart, c) = let l = length-append past (xs ∷ []) in omega (arith, at_inside (past ++ xs ∷ []) k p e)

  pub clash_slot : ClashAt lawful start past xs n k s t → s < slots_at past xs k
  clash_slot (x, y, (p, e, here), there, apart, c) = subst (λ (o : Option (List Instruction)). s < slots_of o) (sym e) (at_inside p s x here)

  pub clash_inside : ClashAt lawful start past xs n k s t → t < length xs
  clash_inside (x, y, st, there, apart, c) = at_inside xs t y there

  pub clash_there : At lawful start past xs n k s t → ClashAt lawful start past xs n k s t
  clash_there (p, e, (x, here, (y, there, (apart, c)))) =
      (x, y, (p, e, here), there, λ a b. apart (a, b), ⊎_map (λ b. b) (⊎_map (λ b. b) (λ (e, w, (h, b)). (e, w, b))) c)

  pub clash_back : ClashAt lawful start past xs n k s t → At lawful start past xs n k s t
  clash_back (x, y, (p, e, here), there, apart, c) =
      let h = clash_packet (x, y, (p, e, here), there, apart, c) in
      let le : k ≤ length past = omega arith in
      (p, e, (x, here, (y, there, (λ (a, b). apart a b, ⊎_map (λ b. b) (⊎_map (λ b. b) (λ (e, w, b). (e, w, (le, b)))) c))))

abbrev pub clash_at : (lawful start : Valuations) (past : List (List Instruction)) (xs : List Instruction) (n k s t : ℕ) → Test (ClashAt lawful start past xs n k s t)
clash_at lawful start past xs n k s t =
    like (clash_there lawful start past xs n k s t) (clash_back lawful start past xs n k s t)
    (given (λ p. (x : Instruction) × (slice_get p s ≡ Some x) × ((y : Instruction) × (slice_get xs t ≡ Some y) × Apart lawful start past n k s t x y))
    (λ p. given (λ x. (y : Instruction) × (slice_get xs t ≡ Some y) × Apart lawful start past n k s t x y)
    (λ x. given (λ y. Apart lawful start past n k s t x y) (λ y. both (lacks (both (equal k (length past)) (equal s t))) (clashing lawful start past n k x y)) (slice_get xs t)) (slice_get p s))
    (slice_get (past ++ xs ∷ []) k))

-- some slot of packet k, some packet, some slot of xs
abbrev pub clash_in : (lawful start : Valuations) (past : List (List Instruction)) (xs : List Instruction) (n t k : ℕ) → Test ((s : ℕ) × ClashAt lawful start past xs n k s t)
clash_in lawful start past xs n t k =
    like (λ (s, h, c). (s, c)) (λ (s, c). (s, clash_slot lawful start past xs n k s t c, c))
    (below (λ s. ClashAt lawful start past xs n k s t) (λ s. clash_at lawful start past xs n k s t) (slots_at past xs k))

abbrev pub clash_with : (lawful start : Valuations) (past : List (List Instruction)) (xs : List Instruction) (n t : ℕ) → Test ((k s : ℕ) × ClashAt lawful start past xs n k s t)
clash_with lawful start past xs n t =
    like (λ (k, h, (s, c)). (k, s, c)) (λ (k, s, c). (k, clash_packet lawful start past xs n k s t c, (s, c)))
    (below (λ k. (s : ℕ) × ClashAt lawful start past xs n k s t) (clash_in lawful start past xs n t) (length past + 1))

abbrev pub some_clash : (lawful start : Valuations) (past : List (List Instruction)) (xs : List Instruction) (n : ℕ) → Test ((k s t : ℕ) × ClashAt lawful start past xs n k s t)
some_clash lawful start past xs n =
    like (λ (t, h, (k, s, c)). (k, s, t, c)) (λ (k, s, t, c). (t, clash_inside lawful start past xs n k s t c, (k, s, c)))
    (below (λ t. (k s : ℕ) × ClashAt lawful start past xs n k s t) (clash_with lawful start past xs n) (length xs))

-- ---- the packet

abbrev pub breaks : (lawful start : Valuations) (past : List (List Instruction)) (xs : List Instruction) (n : ℕ) → Test (Breaks lawful start past xs n)
breaks lawful start past xs n =
    either (some_clash lawful start past xs n) (either (both (equal n 16) (cross_excess xs)) (both (equal n 17) (read_excess xs)))
