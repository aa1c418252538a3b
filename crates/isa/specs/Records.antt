-- Records: eight bytes, by their names.
use Rattle.std.specs.Prelude.{ℕ, List, [], ◌∷◌}
use Rattle.isa.specs.declared.record.Flags.{Flags}
use Rattle.isa.specs.declared.record.Record.{Record}
use Rattle.isa.specs.Bits.{is_set}

-- the bytes of a record, in order
abbrev pub bytes : Record → List ℕ
bytes r = r.operation ∷ r.unit ∷ r.flags ∷ r.condition ∷ r.s1 ∷ r.s2 ∷ r.dst ∷ r.count ∷ []

-- the flags of a byte: p, X, T and U are bits 0 to 3
abbrev pub flags_of : ℕ → Flags
flags_of n = record { p = is_set n 0; x = is_set n 1; t = is_set n 2; u = is_set n 3 }
