use Rattle.std.proofs.Common.{ℕ, ◌<◌, ◌↔◌}
use Rattle.runs.specs.Valuations.{Has, After}
use Rattle.runs.proofs.Carrying.{carries_push}
use Rattle.runs.proofs.valuations.Valuations.step.Goals as goal

pub returns : goal.returns
returns c =
    let stepped : (w : ℕ) → w < 64 → Has c.common.result w ↔ (Has c.args.lawful w × After c.args.self c.args.changes w) =
    λ w hw. let (there, back) = c.common.ensures.members w in let (after, before) = c.expand.ensures.members w hw in
    (λ h. let (l, e) = there h in (l, after e), λ (l, a). back (l, before a)) in
    record { members = stepped; carries = λ start ms j k hj held. carries_push c.args.lawful start ms j k c.args.self _ c.args.changes hj stepped held }
