use Rattle.std.proofs.Common.{get_or, None}
use Rattle.flight.specs.Issues.{FreedBy}
use Rattle.flight.proofs.Masks.{place_more}
use Rattle.flight.proofs.changes.freed.Goals as goal

pub loop-write-preserved : goal.loop-write-preserved
loop-write-preserved c = λ i hi.
    place_more (c.union-freed.ensures.members i)
    (λ j. FreedBy c.args.issued.issue c.args.cycles.now.start c.args.cycles.now.end i (get_or c.writes-write-items.result j None))
    c.loop-write.write-index (c.loop-write.invariant i hi) (c.freed_by.ensures.members i hi)
