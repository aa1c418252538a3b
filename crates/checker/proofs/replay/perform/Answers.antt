use Rattle.std.proofs.Common.{vec_items, ◌∙◌, arith}
use Rattle.checker.specs.Stands.{rules_of}
use Rattle.checker.proofs.Performing.{performs_more, same_rules}
use Rattle.checker.proofs.replay.perform.Goals as goal

pub loop-call-preserved : goal.loop-call-preserved
loop-call-preserved g c =
    let first = c.args.checker.now in
    let here = c.loop-call.checker in
    let rows = g.R.Repertoire.map in
    let inv = c.loop-call.invariant in
    let kept = c.call.ensures.rules in (
      λ b stands.
          performs_more (rules_of (rows first.repertoire) first) (rows here.repertoire) b c.args.calls.now c.loop-call.call-index _ (vec_items c.args.answers.now)
          (vec_items c.loop-call.answers) (vec_items c.push_reserved.new.self) here c.call.new.self c.call.result c.loop-call-test.true
          (same_rules rows here first inv.1 inv.2) (inv.0 b stands) c.call.ensures.serves c.push_reserved.ensures.items,
      kept.0 ∙ inv.1,
      kept.1 ∙ inv.2,
      omega (arith, c.push_reserved.ensures.len, inv.3),
      c.push_reserved.ensures.capacity ∙ inv.4,
    )
