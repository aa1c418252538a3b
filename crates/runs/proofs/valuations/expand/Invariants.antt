use Rattle.runs.proofs.Expanding.{Expanded}
use Rattle.runs.proofs.valuations.expand.Given as goal

abbrev pub invariant-loop-register : goal.invariant-loop-register
invariant-loop-register l = Expanded l.register-index l.fn.set.bits l.fn.changes.mask l.all.bits
