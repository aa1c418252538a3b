-- A register that is read often is read somewhere. Assumes nothing.
use Rattle.std.proofs.Common.{◌≡◌, ℕ, suc, ◌<◌, Bool, true, false, cond, eqb, List, [], ◌∷◌, length, get_or, ◌↔◌, Some, None, sum_by, count_by, Option, sym, refl, ap, subst, ⊎_elim, suc-le-suc, zero-le, arith, eqb-true}
use Rattle.std.proofs.lemmas.List.Sums.{sum_by-cons}
use Rattle.std.proofs.lemmas.Bool.{cases_eq}
use Rattle.std.specs.List.{Any}
use Rattle.isa.specs.declared.register.Register.{Register}
use Rattle.admission.specs.declared.instruction.Instruction.{Instruction}
use Rattle.admission.specs.Operands.{present, stored_width, read_places}
use Rattle.admission.proofs.Places.{six_present}
use Rattle.hazards.specs.Counts.{mentions, ReadExcess, ExcessAt}
use Rattle.hazards.proofs.Sums.{front_reads}

-- a sum that is not 0 has a part that is not 0
pub some_part : (f : Instruction → ℕ) (xs : List Instruction) → 0 < sum_by f xs → (x : Instruction) × (k : ℕ) × (k < length xs) × ((d : Instruction) → get_or xs k d ≡ x) × (0 < f x)
some_part f [] h = absurd (omega arith)
some_part f (x ∷ xs) h =
    ⊎_elim
    (λ none. let e = sum_by-cons f x xs in
    let (y, k, hk, at, p) = some_part f xs (omega arith) in (y, suc k, suc-le-suc hk, at, p))
    (λ some. (x, 0, suc-le-suc zero-le, λ d. refl, omega arith)) (cases_eq (f x) 0)

-- the register stands at some place
abbrev Stands : Register → List (Option Register) → Type 0
Stands r os = (j : ℕ) × (j < length os) × (get_or os j None ≡ Some r)

abbrev named : Register → List Register → ℕ
named r = count_by (λ q. eqb q.number r.number)

later : (r : Register) (o : Option Register) (os : List (Option Register)) → Stands r os → Stands r (o ∷ os)
later r o os (j, hj, e) = (suc j, suc-le-suc hj, e)

here : (r q : Register) (os : List (Option Register)) (b : Bool) → eqb q.number r.number ≡ b → 0 < named r (q ∷ present os) → (0 < named r (present os) → Stands r os) → Stands r (Some q ∷ os)
here r q os true e h more = (0, suc-le-suc zero-le, ap (λ n. Some (record { number = n })) (eqb-true q.number r.number e))
here r q os false e h more =
    let s = sum_by-cons (λ x. cond (eqb x.number r.number) 1 0) q (present os) in
    let z : ◌≡◌ {A = ℕ} (cond {A = ℕ} (eqb q.number r.number) 1 0) 0 = ap (λ (t : Bool). cond {A = ℕ} t 1 0) e in
    later r (Some q) os (more (omega arith))

-- a register that is mentioned stands at some place
pub some_place : (r : Register) (os : List (Option Register)) → 0 < named r (present os) → Stands r os
some_place r [] h = absurd (omega arith)
some_place r (None ∷ os) h = later r None os (some_place r os h)
some_place r (Some q ∷ os) h = here r q os (eqb q.number r.number) refl h (some_place r os)

-- a register that is read too often is one that some instruction reads
pub excess_found : (xs : List Instruction) → ReadExcess xs → (x : Instruction) × (k : ℕ) × (k < length xs) × ((d : Instruction) → get_or xs k d ≡ x) × (j : ℕ) × (j < 6) × ExcessAt xs (get_or (read_places x) j None)
excess_found xs (r, h) =
    let (x, k, hk, at, p) = some_part (mentions r) xs (omega arith) in
    let listed = six_present x.row.s1 x.row.s2 (stored_width x.row.class x.row.dst) x.s1 x.s2 x.dst in
    let (j, hj, e) = some_place r (read_places x) (subst (λ l. 0 < named r l) (sym listed) p) in
    let six : length (read_places x) ≡ 6 = sym (ap length (front_reads x)) in
    (x, k, hk, at, j, omega arith, subst (ExcessAt xs) (sym e) h)

-- so some instruction of the packet reads it, and the other way round
pub excess_any : (xs : List Instruction) → Any (λ x. (j : ℕ) × (j < 6) × ExcessAt xs (get_or (read_places x) j None)) xs ↔ ReadExcess xs
excess_any xs = (
  λ (k, x, hk, at, (j, hj, e)). there (get_or (read_places x) j None) e,
  λ e. let (x, k, hk, at, j, hj, h) = excess_found xs e in (k, x, hk, at x, (j, hj, h)),
)
  where
    there : (o : Option Register) → ExcessAt xs o → ReadExcess xs
    there (Some r) h = (r, h)
    there None h = absurd h
