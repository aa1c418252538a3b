-- Tests of what lands: some write of an instruction, two writes at one register, a change of a condition register, and a stall.
-- Assumes nothing.
use Rattle.std.proofs.Common.{◌≡◌, ℕ, ◌+◌, ◌<◌, ◌≤◌, true, false, List, [], ◌∷◌, get_or, Some, None, refl, subst}
use Rattle.std.specs.List.{slice_get}
use Rattle.isa.specs.declared.condition.ConditionRegister.{ConditionRegister}
use Rattle.isa.specs.declared.condition.ConditionRegister.TheVariants.{B0, B1, B2, A1, A2, A0}
use Rattle.isa.specs.declared.register.Register.{Register}
use Rattle.admission.specs.declared.instruction.Instruction.{Instruction}
use Rattle.admission.specs.declared.instruction.Write.{Write}
use Rattle.admission.specs.Operands.{write_places}
use Rattle.runs.specs.Valuations.{place}
use Rattle.isa.specs.Conditions.{register_number}
use Rattle.constraints.specs.Schedules.{cycles, issue, Writes, Lands, Tested, May, Stalls}
use Rattle.constraints.specs.Constraints.{WriteTogether}
use Rattle.decision.proofs.Deciding.{Test, like, both, all_three, equal, less, at_most, is_true, is_false, optional, given, Somewhere, some, below}
use Rattle.decision.proofs.Clashing.{one_register}

-- some write of an instruction
abbrev pub written : (P : Write → Type 0) → ((w : Write) → Test (P w)) → (i : Instruction) → Test ((w : Write) × Writes i w × P w)
written P f i =
    like (λ (j, h, (w, e, p)). (w, (j, h, e), p)) (λ (w, (j, h, e), p). (j, h, (w, e, p)))
    (below (λ j. (w : Write) × (get_or (write_places i) j None ≡ Some w) × P w) (λ j. given P f (get_or (write_places i) j None)) 3)

abbrev pub Together : ℕ → ℕ → Write → Write → Type 0
Together c d v w = (v.register ≡ w.register) × (c + v.delay ≡ d + w.delay)

abbrev pub write_together : (x : Instruction) (c : ℕ) (y : Instruction) (d : ℕ) → Test (WriteTogether x c y d)
write_together x c y d =
    like (λ (v, a, (w, b, (r, t))). (v, w, a, b, r, t)) (λ (v, w, a, b, r, t). (v, a, (w, b, (r, t))))
    (written (λ v. (w : Write) × Writes y w × Together c d v w)
    (λ v. written (Together c d v) (λ w. both (one_register v.register w.register) (equal (c + v.delay) (d + w.delay))) y) x)

-- some write that lands
abbrev pub Landed : List (List Instruction) → (ℕ → Write → Type 0) → Type 0
Landed ps P = (c : ℕ) × (w : Write) × Lands ps c w × P c w

-- the same, by packet and slot
abbrev pub OfSlot : List (List Instruction) → (ℕ → Write → Type 0) → ℕ → ℕ → Instruction → Type 0
OfSlot ps P k s i = (w : Write) × Writes i w × P (issue ps k + w.delay) w

pub landed_there : (ps : List (List Instruction)) (P : ℕ → Write → Type 0) → Somewhere (λ k p. Somewhere (OfSlot ps P k) p) ps → Landed ps P
landed_there ps P (k, p, e, (s, i, here, (w, writes, q))) = (issue ps k + w.delay, w, (k, s, i, (p, e, here), writes, refl), q)

pub landed_back : (ps : List (List Instruction)) (P : ℕ → Write → Type 0) → Landed ps P → Somewhere (λ k p. Somewhere (OfSlot ps P k) p) ps
landed_back ps P (c, w, (k, s, i, (p, e, here), writes, when), q) = (k, p, e, (s, i, here, (w, writes, subst (λ (x : ℕ). P x w) when q)))

abbrev pub landed : (ps : List (List Instruction)) (P : ℕ → Write → Type 0) → ((c : ℕ) (w : Write) → Test (P c w)) → Test (Landed ps P)
landed ps P f =
    like (landed_there ps P) (landed_back ps P)
    (some (λ k p. Somewhere (OfSlot ps P k) p) (λ k p. some (OfSlot ps P k) (λ s i. written (λ w. P (issue ps k + w.delay) w) (λ w. f (issue ps k + w.delay) w) i) p) ps)

abbrev pub condition_registers : List ConditionRegister
condition_registers = B0 ∷ B1 ∷ B2 ∷ A1 ∷ A2 ∷ A0 ∷ []

pub listed : (q : ConditionRegister) → slice_get condition_registers (place q) ≡ Some q
listed B0 = refl
listed B1 = refl
listed B2 = refl
listed A1 = refl
listed A2 = refl
listed A0 = refl

abbrev pub tested : (r : Register) (i : ℕ) → Test (Tested r i)
tested r i =
    like (λ (k, q, e, (p, n)). (q, p, n)) (λ (q, p, n). (place q, q, listed q, (p, n)))
    (some (λ k q. (place q ≡ i) × (r.number ≡ register_number q)) (λ k q. both (equal (place q) i) (equal r.number (register_number q))) condition_registers)

abbrev pub Between : List (List Instruction) → ℕ → ℕ → ℕ → Write → Type 0
Between ps k i c w = (issue ps k ≤ c) × (c < issue ps (k + 1)) × Tested w.register i

abbrev pub may : (ps : List (List Instruction)) (k i : ℕ) → Test (May ps k i)
may ps k i =
    like (λ (c, w, l, (a, b, t)). (c, w, l, a, b, t)) (λ (c, w, l, a, b, t). (c, w, l, (a, b, t)))
    (landed ps (Between ps k i) (λ c w. all_three (at_most (issue ps k) c) (less c (issue ps (k + 1))) (tested w.register i)))

abbrev pub Brought : List (List Instruction) → Instruction → ℕ → Write → Type 0
Brought past x c w = (x.s2 ≡ Some w.register) × (w.load ≡ false) × (c + 1 ≡ cycles past)

abbrev pub stalls : (past : List (List Instruction)) (xs : List Instruction) → Test (Stalls past xs)
stalls past xs =
    like (λ (t, x, e, (r, (c, w, l, (s, d, n)))). (t, c, x, w, e, r, s, l, d, n)) (λ (t, c, x, w, e, r, s, l, d, n). (t, x, e, (r, (c, w, l, (s, d, n)))))
    (some (λ t x. (x.cross ≡ true) × Landed past (Brought past x))
    (λ t x. both (is_true x.cross)
    (landed past (Brought past x) (λ c w. all_three (optional one_register x.s2 (Some w.register)) (is_false w.load) (equal (c + 1) (cycles past))))) xs)
