-- One entry of a row file: eight bytes, an operation number and its row.
use Rattle.std.specs.Prelude.{ℕ, Bool, cond, ◌&&◌, List, Some, None, Option, ◌==◌, nat_le, slice_index}
use Rattle.isa.specs.declared.row.Row.{Row}
use Rattle.isa.specs.Classes.{class_of}
use Rattle.isa.specs.Widths.{width_of}
use Rattle.isa.specs.Rows.{keeps_rule}

-- the operation number is the first byte
abbrev pub operation : List ℕ → ℕ
operation e = slice_index e 0

-- the nonaligned mark is 0 or 1
abbrev pub mark_of : ℕ → Option Bool
mark_of b = cond (nat_le b 1) (Some (b == 1)) None

-- class, mark and widths are in range, and the last byte is 0
abbrev pub in_range : List ℕ → Bool
in_range e = nat_le (slice_index e 1) 5 && (nat_le (slice_index e 3) 1 && (nat_le (slice_index e 4) 2 && (nat_le (slice_index e 5) 2 && (nat_le (slice_index e 6) 2 && slice_index e 7 == 0))))

-- the row that the bytes spell: class, unit mask, mark, widths of s1, s2 and dst
abbrev pub spelled : List ℕ → Row
spelled e = record { class = class_of (slice_index e 1); units = record { mask = slice_index e 2 }; nonaligned = (slice_index e 3 == 1); s1 = width_of (slice_index e 4); s2 = width_of (slice_index e 5); dst = width_of (slice_index e 6) }

-- the row, where all the bytes are in range
abbrev pub spelled_row : List ℕ → Option Row
spelled_row e = cond (in_range e) (Some (spelled e)) None

-- the row, where it keeps the rule
abbrev pub lawful_row : Option Row → Option Row
lawful_row None = None
lawful_row (Some w) = cond (keeps_rule w) (Some w) None

-- the row of an entry whose bytes are in range and whose row keeps the rule
abbrev pub row_of : List ℕ → Option Row
row_of e = lawful_row (spelled_row e)
