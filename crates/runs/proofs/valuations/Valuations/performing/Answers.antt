use Rattle.std.proofs.Common.{length}
use Rattle.runs.specs.Runs.{MayOf}
use Rattle.runs.proofs.Carrying.{carries_start}
use Rattle.runs.proofs.valuations.Valuations.performing.Goals as goal

pub returns : goal.returns
returns c =
    let shared = c.common.ensures.members in
    let sat = c.meeting.ensures.members in
    record {
      members = λ v hv. (λ h. let (l, m) = (shared v).0 h in (l, (sat v hv).0 m), λ h. (shared v).1 (h.0, (sat v hv).1 h.1));
      carries = λ lawful start ms reached. carries_start lawful start (MayOf ms) (length ms) c.args.condition c.args.self c.meeting.result c.common.result sat shared reached;
    }
