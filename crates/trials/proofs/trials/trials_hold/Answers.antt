use Rattle.trials.proofs.trials.trials_hold.Goals as goal
use Rattle.trials.proofs.Computing.{trials}

pub returns : goal.returns
returns c = record { trials = trials }
