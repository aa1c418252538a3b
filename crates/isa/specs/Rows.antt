-- Rows, the rule that every row keeps, and maps from operation numbers to rows.
use Rattle.std.specs.Prelude.{◌≡◌, ℕ, Bool, true, not, ◌&&◌, Some, Option}
use Rattle.isa.specs.declared.class.Class.{Class}
use Rattle.isa.specs.declared.class.Class.TheVariants.{Nop, SingleCycle, TwoCycle, FourCycle, Load, Store}
use Rattle.isa.specs.declared.row.Row.{Row}
use Rattle.isa.specs.Widths.{is_absent, is_single}
use Rattle.isa.specs.Units.{some_unit, other_than_d}

-- a NOP has no unit and no operand
abbrev pub idle_row : Row → Bool
idle_row w = not (some_unit w.units) && (is_absent w.s1 && (is_absent w.s2 && is_absent w.dst))

-- single, two and four cycle operations have a unit, an s2 and a dst
abbrev pub compute_row : Row → Bool
compute_row w = some_unit w.units && (not (is_absent w.s2) && not (is_absent w.dst))

-- loads and stores are on .D units alone, with s1 and s2 of one register and a dst
abbrev pub access_row : Row → Bool
access_row w = some_unit w.units && (not (other_than_d w.units) && (is_single w.s1 && (is_single w.s2 && not (is_absent w.dst))))

-- what the row's class asks; only loads and stores may be nonaligned
abbrev pub fits_class : Class → Row → Bool
fits_class Nop w = not w.nonaligned && idle_row w
fits_class SingleCycle w = not w.nonaligned && compute_row w
fits_class TwoCycle w = not w.nonaligned && compute_row w
fits_class FourCycle w = not w.nonaligned && compute_row w
fits_class Load w = access_row w
fits_class Store w = access_row w

-- the rule of rows
abbrev pub keeps_rule : Row → Bool
keeps_rule w = fits_class w.class w

-- every row of the map keeps the rule
abbrev pub Lawful : (ℕ → Option Row) → Type 0
Lawful m = (n : ℕ) (w : Row) → m n ≡ Some w → keeps_rule w ≡ true
