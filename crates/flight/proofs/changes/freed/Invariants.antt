use Rattle.std.proofs.Common.{ℕ, ◌<◌, ◌↔◌, get_or, None}
use Rattle.runs.specs.Valuations.{MayChange}
use Rattle.flight.specs.Issues.{FreedBy}
use Rattle.flight.proofs.changes.freed.Given as goal

abbrev pub invariant-loop-write : goal.invariant-loop-write
invariant-loop-write l = (i : ℕ) → i < 6 → MayChange l.freed i ↔ ((j : ℕ) × (j < l.write-index) × FreedBy l.fn.issued.issue l.fn.cycles.start l.fn.cycles.end i (get_or l.write-items j None))
