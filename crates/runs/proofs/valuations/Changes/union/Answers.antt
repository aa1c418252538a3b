use Rattle.runs.proofs.Sets.{or_either}
use Rattle.runs.proofs.valuations.Changes.union.Goals as goal

pub returns : goal.returns
returns c = record { members = λ i. or_either c.args.self.mask c.args.other.mask i (λ h. h, λ h. h) (λ h. h, λ h. h) }
