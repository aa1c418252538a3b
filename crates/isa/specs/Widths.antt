-- Widths of operands: none, one register, or a pair.
use Rattle.std.specs.Prelude.{ℕ, Bool, true, false, cond, ◌==◌}
use Rattle.isa.specs.declared.width.Width.{Width}
use Rattle.isa.specs.declared.width.Width.TheVariants.{Absent, Single, Pair}

-- the width of a number from 0 to 2
abbrev pub width_of : ℕ → Width
width_of n = cond (n == 0) Absent (cond (n == 1) Single Pair)

-- there is no operand
abbrev pub is_absent : Width → Bool
is_absent Absent = true
is_absent Single = false
is_absent Pair = false

-- the operand is one register
abbrev pub is_single : Width → Bool
is_single Absent = false
is_single Single = true
is_single Pair = false
