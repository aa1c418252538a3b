-- Conditions: a byte 2 * creg + z names a condition register and whether it is tested for zero.
use Rattle.std.specs.Prelude.{ℕ, ◌/◌, ◌%◌, cond, Some, None, Option, ◌==◌}
use Rattle.std.specs.Option.{option_map}
use Rattle.isa.specs.declared.condition.ConditionRegister.{ConditionRegister}
use Rattle.isa.specs.declared.condition.ConditionRegister.TheVariants.{B0, B1, B2, A1, A2, A0}
use Rattle.isa.specs.declared.condition.Condition.{Condition}
use Rattle.isa.specs.declared.condition.Condition.TheVariants.{Always, Nonzero, Zero}

-- the condition register of a creg
abbrev pub creg_of : ℕ → Option ConditionRegister
creg_of n = cond (n == 1) (Some B0) (cond (n == 2) (Some B1) (cond (n == 3) (Some B2) (cond (n == 4) (Some A1) (cond (n == 5) (Some A2) (cond (n == 6) (Some A0) None)))))

-- z = 1 tests for zero, z = 0 for nonzero
abbrev pub tested : ℕ → ConditionRegister → Condition
tested z r = cond (z == 1) (Zero r) (Nonzero r)

-- the condition of a byte: 0 always holds, and 1, 14 and above name none
abbrev pub condition_of : ℕ → Option Condition
condition_of c = cond (c == 0) (Some Always) (option_map (tested (c % 2)) (creg_of (c / 2)))

-- the number of the register that a condition tests
abbrev pub register_number : ConditionRegister → ℕ
register_number B0 = 32
register_number B1 = 33
register_number B2 = 34
register_number A1 = 1
register_number A2 = 2
register_number A0 = 0
