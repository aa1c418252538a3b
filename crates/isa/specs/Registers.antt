-- Registers: 0 to 31 are A0 to A31, 32 to 63 are B0 to B31.
use Rattle.std.specs.Prelude.{ℕ, ◌+◌, ◌*◌, ◌/◌, cond, Some, None, Option, nat_lt}
use Rattle.isa.specs.declared.unit.Side.{Side}
use Rattle.isa.specs.declared.unit.Side.TheVariants.{A, B}
use Rattle.isa.specs.declared.register.Register.{Register}

-- the register that a byte names
abbrev pub register_of : ℕ → Option Register
register_of n = cond (nat_lt n 64) (Some (record { number = n })) None

-- the side that a register is on
abbrev pub side_of : Register → Side
side_of r = cond (nat_lt r.number 32) A B

-- the odd register of the pair that a register is in: the next one, where it is even
abbrev pub odd_of : Register → Register
odd_of r = record { number = 2 * (r.number / 2) + 1 }
