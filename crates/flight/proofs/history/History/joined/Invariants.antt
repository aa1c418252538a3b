use Rattle.std.proofs.Common.{List}
use Rattle.std.specs.List.{AllByRecursion as All}
use Rattle.admission.specs.declared.instruction.Instruction.{Instruction}
use Rattle.runs.specs.declared.valuations.Valuations.{Valuations}
use Rattle.flight.specs.Kept.{Performed, StandsFor}
use Rattle.flight.proofs.Joining.{Added}
use Rattle.flight.proofs.history.History.joined.Given as goal

abbrev pub invariant-loop-slot : goal.invariant-loop-slot
invariant-loop-slot l =
    Added l.self.packets l.self.cycle l.instructions l.self.flight l.slot l.entries
    × ((start : Valuations) (past : List (List Instruction)) → StandsFor l.self start past → All (Performed l.self.lawful start past) l.entries)
