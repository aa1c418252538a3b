use Rattle.std.proofs.Common.{ℕ, ◌<◌, ◌↔◌, take}
use Rattle.runs.specs.Valuations.{MayChange}
use Rattle.flight.specs.Issues.{SomeFrees}
use Rattle.flight.proofs.changes.changes.Given as goal

abbrev pub invariant-loop-entry : goal.invariant-loop-entry
invariant-loop-entry l = (i : ℕ) → i < 6 → MayChange l.changes i ↔ SomeFrees l.cycles.start l.cycles.end i (take l.entry-index l.entries)
