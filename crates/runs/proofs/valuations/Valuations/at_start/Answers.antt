use Rattle.std.proofs.Common.{[]}
use Rattle.runs.specs.Runs.{MayOf}
use Rattle.runs.proofs.Carrying.{reaches_first}
use Rattle.runs.proofs.valuations.Valuations.at_start.Goals as goal

pub returns : goal.returns
returns c = record { members = c.common.ensures.members; reaches = reaches_first c.args.lawful c.args.start (MayOf []) c.common.result c.common.ensures.members }
