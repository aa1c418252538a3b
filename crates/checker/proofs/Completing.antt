-- A packet that is complete joins what is kept, or is dropped. Assumes nothing.
use Rattle.std.proofs.Common.{◌≡◌, ◌<◌, ◌≤◌, Bool, true, false, cond, List, Ok, Err, Result, refl, ap, ◌∙◌, arith, MatchResult}
use Rattle.std.specs.Result.{IsErrAnd}
use Rattle.std.proofs.lemmas.Result.{err_from_is_err_and}
use mir.Val.{bool_byte}
use Rattle.isa.specs.declared.refusal.Refusal.{Refusal}
use Rattle.isa.specs.declared.refusal.Refusal.TheVariants.{ScheduleFull}
use Rattle.admission.specs.declared.instruction.Instruction.{Instruction}
use Rattle.constraints.specs.declared.fault.Fault.{Fault}
use Rattle.flight.specs.declared.history.History.{History}
use Rattle.flight.specs.Kept.{Accepts}

-- what accepting a packet answers
abbrev pub Joins : History → List Instruction → History → Result (Unit {0}) Refusal → Type 0
Joins h xs after r = MatchResult r (λ _. Accepts h xs after) (λ e. (e ≡ ScheduleFull) × (h.packets ≡ 512) × (after ≡ h))

-- where there is room it joins
pub joins : (h : History) (xs : List Instruction) (after : History) (r : Result (Unit {0}) Refusal) → h.packets < 512 → Joins h xs after r → Accepts h xs after
joins h xs after (Ok u) room a = a
joins h xs after (Err e) room (_, full, _) = absurd (omega arith)

pub same_lawful : (h : History) (xs : List Instruction) (after : History) (r : Result (Unit {0}) Refusal) → Joins h xs after r → after.lawful ≡ h.lawful
same_lawful h xs after (Ok u) a = a.lawful
same_lawful h xs after (Err e) (_, _, same) = ap (λ (x : History). x.lawful) same

-- a stall as a number
pub as_count : (b : Bool) → bool_byte b ≡ cond b 1 0
as_count true = refl
as_count false = refl

pub one_at_most : (b : Bool) → cond b 1 0 ≤ 1
one_at_most true = omega arith
one_at_most false = omega arith

-- the exit of a `?`
pub residual : {X : Type 0} (r : Result X Fault) (e : Fault) → IsErrAnd r (λ y. y ≡ e) → r ≡ Err e
residual r e by = let p = err_from_is_err_and r by in p.1 ∙ ap Err p.2
