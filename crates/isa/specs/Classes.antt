-- The six classes of operations.
-- A class fixes the latency of the result, and whether memory is read or written.
use Rattle.std.specs.Prelude.{ℕ, Bool, true, false, cond, ◌==◌}
use Rattle.isa.specs.declared.class.Class.{Class}
use Rattle.isa.specs.declared.class.Class.TheVariants.{Nop, SingleCycle, TwoCycle, FourCycle, Load, Store}

-- the class of a number from 0 to 5
abbrev pub class_of : ℕ → Class
class_of n = cond (n == 0) Nop (cond (n == 1) SingleCycle (cond (n == 2) TwoCycle (cond (n == 3) FourCycle (cond (n == 4) Load Store))))

-- the cycles from the issue of an operation to the landing of its result
abbrev pub delay : Class → ℕ
delay Nop = 0
delay SingleCycle = 0
delay TwoCycle = 1
delay FourCycle = 3
delay Load = 4
delay Store = 0

-- the operation is a load or a store
abbrev pub accesses : Class → Bool
accesses Nop = false
accesses SingleCycle = false
accesses TwoCycle = false
accesses FourCycle = false
accesses Load = true
accesses Store = true
