use Rattle.std.proofs.Common.{◌≡◌, eqb, count_by, ap, ◌∙◌, rules}
use Rattle.std.proofs.iter.runs.Made.{chains}
use Rattle.hazards.specs.Counts.{names}
use Rattle.hazards.proofs.Sums.{named_places}
use Rattle.hazards.proofs.counts.RegisterCounted.count.Goals as goal

pub returns : goal.returns
returns c =
    let r = c.args.self.now in
    let e : c.count.result ≡ count_by (names r) c.reads-reads.result = search (rules, chains) in
    e ∙ named_places r c.reads-reads.result ∙ ap (count_by (λ q. eqb q.number r.number)) c.reads-reads.ensures.mentions
