use Rattle.std.proofs.Common.{◌+◌, ◌-◌, ◌^◌, min, arith, rules}
use Rattle.std.proofs.lemmas.Iterator.{YieldsList-from_slice}
use Rattle.std.proofs.lemmas.Iterator.Consumers.{fold_from_yields_List}
use Rattle.hazards.proofs.Sums.{capped_decides}
use Rattle.hazards.proofs.counts.over.Goals as goal

pub returns : goal.returns
returns g c =
    let f = g.K.Counted.amount c.args.key.now in
    let e = fold_from_yields_List _ (λ s x. min (s + f x) (2 ^ 64 - 1)) 0 c.fold-sum.result c.fold-sum.ensures.ran (YieldsList-from_slice c.args.packet.now cc) (λ a x b q h. search rules) in
    record { decides = capped_decides f c.args.packet.now c.fold-sum.result c.args.limit _ _ (omega arith) c.from.ensures e }
