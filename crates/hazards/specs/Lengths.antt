-- How many cycles a packet takes.
use Rattle.std.specs.Prelude.{ℕ, max, cond, List, [], ◌∷◌}
use Rattle.admission.specs.declared.instruction.Instruction.{Instruction}
use Rattle.admission.specs.Refusals.{is_nop}

-- the cycles of a NOP, and 0 for any other instruction
abbrev pub nop_cycles : Instruction → ℕ
nop_cycles i = cond (is_nop i.row.class) i.cycles 0

-- the greatest count of a NOP, or 1 without one
abbrev pub packet_length : List Instruction → ℕ
packet_length [] = 1
packet_length (i ∷ xs) = max (nop_cycles i) (packet_length xs)
