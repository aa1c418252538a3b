use Rattle.flight.proofs.Stepping.{carries_on}
use Rattle.flight.proofs.onward.stepped.Goals as goal

pub returns-clause-performed : goal.returns-clause-performed
returns-clause-performed c =
    let e = c.args.entry in
    λ start past xs masks le held.
    carries_on c.args.lawful start past xs e.issued.place.packet e.issued.instruction.condition e.performed c.step.result c.args.changes le masks
    c.step.ensures.members held
