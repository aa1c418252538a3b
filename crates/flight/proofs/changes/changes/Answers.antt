use Rattle.flight.proofs.Masks.{frees_more}
use Rattle.flight.proofs.changes.changes.Goals as goal

pub loop-entry-preserved : goal.loop-entry-preserved
loop-entry-preserved c = λ i hi.
    frees_more (c.union-changes.ensures.members i) c.args.entries.now c.loop-entry.entry-index _ c.args.cycles.now.start c.args.cycles.now.end i
    c.loop-entry-test.true (c.loop-entry.invariant i hi) (c.freed.ensures.members i hi)
