-- Row files: two bytes of count, then the entries, eight bytes each.
-- A file is a repertoire in place: its map is what the entries list.
use Rattle.std.specs.Prelude.{◌≡◌, ℕ, ◌+◌, ◌*◌, ◌<◌, ◌≤◌, true, cond, ◌⊎◌, List, [], ◌∷◌, length, take, drop, is_some, Some, None, Option, ◌==◌, nat_lt, slice_index}
use Rattle.std.specs.List.{AllAdjacentBelow}
use Rattle.std.specs.Simd.{first_chunks}
use Rattle.isa.specs.declared.refusal.Refusal.{Refusal}
use Rattle.isa.specs.declared.refusal.Refusal.TheVariants.{FileSize, RowFileLayout}
use Rattle.isa.specs.declared.row.Row.{Row}
use Rattle.rowfile.specs.Entries.{operation, row_of}

-- a file has from 2 to 65,536 bytes
abbrev pub Sized : List ℕ → Type 0
Sized bs = (2 ≤ length bs) × (length bs ≤ 65536)

-- the count of entries, low byte first
abbrev pub row_count : List ℕ → ℕ
row_count bs = slice_index bs 0 + 256 * slice_index bs 1

-- the eight bytes of entry i
abbrev pub entry : List ℕ → ℕ → List ℕ
entry bs i = take 8 (drop (2 + 8 * i) bs)

-- the count is from 1 to 256, and the file ends behind its last entry
abbrev pub LaidOut : List ℕ → Type 0
LaidOut bs = (1 ≤ row_count bs) × (row_count bs ≤ 256) × (length bs ≡ 2 + 8 * row_count bs)

-- a file as it has to be: laid out, every entry with a row that keeps the rule, the numbers rising strictly
pub record WellFormed (bs : List ℕ) : Type 0 where
  pub laid : LaidOut bs
  pub readable : (i : ℕ) → i < row_count bs → is_some (row_of (entry bs i)) ≡ true
  pub rising : (i : ℕ) → i + 1 < row_count bs → operation (entry bs i) < operation (entry bs (i + 1))

-- the file lists operation n with the row w
abbrev pub Lists : List ℕ → ℕ → Row → Type 0
Lists bs n w = (i : ℕ) × (i < row_count bs) × (operation (entry bs i) ≡ n) × (row_of (entry bs i) ≡ Some w)

-- the entries one by one
abbrev pub entries : List ℕ → List (List ℕ)
entries bs = first_chunks 8 (row_count bs) (drop 2 bs)

-- the numbers rise strictly from each entry to the next
abbrev pub Rising : List (List ℕ) → Type 0
Rising es = AllAdjacentBelow (λ d e. operation d < operation e) es (length es)

-- the row of n: that of the first entry whose number is not below n, if its number is n
abbrev pub entries_map : List (List ℕ) → ℕ → Option Row
entries_map [] n = None
entries_map (e ∷ es) n = cond (nat_lt (operation e) n) (entries_map es n) (cond (operation e == n) (row_of e) None)

-- a file is refused for its size, else where it is not well formed
abbrev pub RefusedFile : List ℕ → Refusal → Type 0
RefusedFile bs e = ((e ≡ FileSize) × (Sized bs → ⊥)) ⊎ ((e ≡ RowFileLayout) × Sized bs × (WellFormed bs → ⊥))

-- a map is the file's: it has exactly the rows that the file lists
abbrev pub MapOfFile : List ℕ → (ℕ → Option Row) → Type 0
MapOfFile bs m = (n : ℕ) (w : Row) → (m n ≡ Some w → Lists bs n w) × (Lists bs n w → m n ≡ Some w)
