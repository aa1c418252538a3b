-- A row file in words: the count of rows, then a line for each.
use Rattle.std.specs.Prelude.{◌≡◌, ℕ, ◌+◌, ◌≤◌, Bool, true, false, cond, ◌⊎◌, List, [], ◌∷◌, ◌++◌, length, Some, None, vec_items, vec_len, vec_capacity, codes, decimal, Option, Vec}
use Rattle.std.specs.List.{flat_map}
use Rattle.std.specs.declared.alloc.Global.{Global}
use Rattle.isa.specs.declared.class.Class.{Class}
use Rattle.isa.specs.declared.width.Width.{Width}
use Rattle.isa.specs.declared.unit.Side.{Side}
use Rattle.isa.specs.declared.unit.Side.TheVariants.{A, B}
use Rattle.isa.specs.declared.unit.UnitKind.{UnitKind}
use Rattle.isa.specs.declared.unit.UnitKind.TheVariants.{L, S, M, D}
use Rattle.isa.specs.declared.unit.Units.{Units}
use Rattle.isa.specs.declared.row.Row.{Row}
use Rattle.isa.specs.declared.refusal.Refusal.{Refusal}
use Rattle.isa.specs.Names.{class_name, width_name, unit_name}
use Rattle.isa.specs.Refusals.{number}
use Rattle.isa.specs.Units.{permitted, some_unit}
use Rattle.rowfile.specs.Entries.{operation, row_of}
use Rattle.rowfile.specs.Files.{Sized, WellFormed, RefusedFile, entries}

-- a text is added at the end of a vector, which keeps the room it has
pub record Adds (before after : Vec ℕ Global) (text : List ℕ) : Type 0 where
  pub items : vec_items after ≡ vec_items before ++ text
  pub len : vec_len after ≡ vec_len before + length text
  pub capacity : vec_capacity before ≤ vec_capacity after

-- there is room for so many bytes more
abbrev pub Room : Vec ℕ Global → ℕ → Type 0
Room v n = vec_len v + n ≤ vec_capacity v

-- the name of a unit that is permitted, behind a space
abbrev pub unit_text : Units → UnitKind → Side → List ℕ
unit_text u k s = cond (permitted u (record { kind = k; side = s })) (codes " " ++ unit_name (record { kind = k; side = s })) []

-- the permitted units of one side
abbrev pub side_text : Units → Side → List ℕ
side_text u s = unit_text u L s ++ (unit_text u S s ++ (unit_text u M s ++ unit_text u D s))

-- the permitted units by name, or ` none`
abbrev pub units_text : Units → List ℕ
units_text u = cond (some_unit u) (side_text u A ++ side_text u B) (codes " none")

-- a width, behind a space
abbrev pub width_text : Width → List ℕ
width_text w = codes " " ++ width_name w

-- nonaligned or not
abbrev pub alignment_name : Bool → List ℕ
alignment_name true = codes ", nonaligned, widths"
alignment_name false = codes ", aligned, widths"

-- nonaligned or not, and the widths of s1, s2 and dst
abbrev pub tail_text : Row → List ℕ
tail_text w = alignment_name w.nonaligned ++ (width_text w.s1 ++ (width_text w.s2 ++ (width_text w.dst ++ (10 ∷ []))))

-- the number and the class in words
abbrev pub head_text : ℕ → Class → List ℕ
head_text n k = decimal n ++ (codes ": " ++ (class_name k ++ codes ", units"))

-- `N: CLASS, units UNITS, ALIGNMENT, widths A B C`
abbrev pub row_line : ℕ → Row → List ℕ
row_line n w = head_text n w.class ++ (units_text w.units ++ tail_text w)

-- the line of a row, where there is one
abbrev pub line_of : ℕ → Option Row → List ℕ
line_of n None = []
line_of n (Some w) = row_line n w

-- the line of an entry
abbrev pub entry_line : List ℕ → List ℕ
entry_line e = line_of (operation e) (row_of e)

-- the lines of entries, in their order
abbrev pub entry_lines : List (List ℕ) → List ℕ
entry_lines es = flat_map entry_line es

-- a text and a number, as a line
abbrev pub number_line : List ℕ → ℕ → List ℕ
number_line text n = text ++ (decimal n ++ (10 ∷ []))

-- `rows N` and the lines
abbrev pub rows_text : List (List ℕ) → List ℕ
rows_text es = number_line (codes "rows ") (length es) ++ entry_lines es

-- `file: refused N`
abbrev pub refused_text : ℕ → List ℕ
refused_text n = number_line (codes "file: refused ") n

-- what is printed of a file: its rows, or why it is refused
abbrev pub Printed : List ℕ → List ℕ → Type 0
Printed bs text = (Sized bs × WellFormed bs × (text ≡ rows_text (entries bs))) ⊎ ((e : Refusal) × RefusedFile bs e × (text ≡ refused_text (number e)))
