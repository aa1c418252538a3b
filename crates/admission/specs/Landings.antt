-- Where writes land.
use Rattle.std.specs.Prelude.{ℕ, ◌+◌}
use Rattle.admission.specs.declared.instruction.Landing.{Landing}
use Rattle.admission.specs.declared.instruction.Write.{Write}

-- a write of an instruction that issues in a cycle, by its register and where it lands
abbrev pub landing : ℕ → Write → Landing
landing cycle w = record { register = w.register; cycle = cycle + w.delay }
