-- What a packet may have only so many of: uses of a cross path, and reads of a register.
use Rattle.std.specs.Prelude.{ℕ, ◌<◌, Bool, false, cond, ◌&&◌, List, Some, None, sum_by, count_by, Option, ◌==◌, nat_eq}
use Rattle.isa.specs.declared.register.Register.{Register}
use Rattle.isa.specs.declared.unit.FunctionalUnit.{FunctionalUnit}
use Rattle.isa.specs.declared.unit.Side.{Side}
use Rattle.isa.specs.Units.{same_side}
use Rattle.admission.specs.declared.instruction.Instruction.{Instruction}
use Rattle.admission.specs.Operands.{reads}

-- the unit is on that side
abbrev pub on_side : Side → Option FunctionalUnit → Bool
on_side s None = false
on_side s (Some u) = same_side u.side s

-- the instruction brings s2 over the cross path to a unit of that side
abbrev pub uses_cross : Side → Instruction → Bool
uses_cross s i = i.cross && on_side s i.unit

-- 1 for such an instruction, else 0
abbrev pub cross_use : Side → Instruction → ℕ
cross_use s i = cond (uses_cross s i) 1 0

-- more than two instructions use the cross path to one side
abbrev pub CrossExcess : List Instruction → Type 0
CrossExcess xs = (s : Side) × (2 < sum_by (cross_use s) xs)

-- the place has that register
abbrev pub names : Register → Option Register → Bool
names r None = false
names r (Some q) = q.number == r.number

-- how often an instruction reads a register
abbrev pub mentions : Register → Instruction → ℕ
mentions r i = count_by (λ q. nat_eq q.number r.number) (reads i)

-- a register is read more than four times
abbrev pub ReadExcess : List Instruction → Type 0
ReadExcess xs = (r : Register) × (4 < sum_by (mentions r) xs)

-- the register of a place is read more than four times
abbrev pub ExcessAt : List Instruction → Option Register → Type 0
ExcessAt xs None = ⊥
ExcessAt xs (Some r) = 4 < sum_by (mentions r) xs
