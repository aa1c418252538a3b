-- The names of classes, widths and units, and what is printed of a byte that names nothing.
use Rattle.std.specs.Prelude.{ℕ, List, ◌++◌, codes, decimal}
use Rattle.isa.specs.declared.class.Class.{Class}
use Rattle.isa.specs.declared.class.Class.TheVariants.{Nop, SingleCycle, TwoCycle, FourCycle, Load, Store}
use Rattle.isa.specs.declared.width.Width.{Width}
use Rattle.isa.specs.declared.width.Width.TheVariants.{Absent, Single, Pair}
use Rattle.isa.specs.declared.unit.Side.{Side}
use Rattle.isa.specs.declared.unit.Side.TheVariants.{A, B}
use Rattle.isa.specs.declared.unit.UnitKind.{UnitKind}
use Rattle.isa.specs.declared.unit.UnitKind.TheVariants.{L, S, M, D}
use Rattle.isa.specs.declared.unit.FunctionalUnit.{FunctionalUnit}
use Rattle.isa.specs.declared.unknown.UnknownByte.{UnknownByte}

-- the class in words
abbrev pub class_name : Class → List ℕ
class_name Nop = codes "NOP"
class_name SingleCycle = codes "single cycle"
class_name TwoCycle = codes "two cycle"
class_name FourCycle = codes "four cycle"
class_name Load = codes "load"
class_name Store = codes "store"

-- a width as a digit
abbrev pub width_name : Width → List ℕ
width_name Absent = codes "0"
width_name Single = codes "1"
width_name Pair = codes "2"

-- the letter of a unit
abbrev letter : UnitKind → List ℕ
letter L = codes "L"
letter S = codes "S"
letter M = codes "M"
letter D = codes "D"

-- the digit of a side
abbrev digit : Side → List ℕ
digit A = codes "1"
digit B = codes "2"

-- a unit by its name
abbrev pub unit_name : FunctionalUnit → List ℕ
unit_name f = codes "." ++ (letter f.kind ++ digit f.side)

-- `nothing is named by byte B`
abbrev pub unknown_text : UnknownByte → List ℕ
unknown_text u = codes "nothing is named by byte " ++ decimal u.0
