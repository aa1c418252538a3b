use Rattle.std.proofs.Common.{ap, ◌∙◌}
use Rattle.admission.specs.Operands.{halves, present, stored_width}
use Rattle.admission.proofs.Places.{six, six_present}
use Rattle.admission.proofs.instruction.Instruction.reads.Goals as goal

pub returns : goal.returns
returns c =
    let i = c.args.self in
    let u = stored_width i.row.class i.row.dst in
    let stored = c.halves-3.ensures.value ∙ ap (λ w. halves w i.dst) c.stored_width.ensures.value in
    let e = six i.row.s1 i.row.s2 u i.s1 i.s2 i.dst _ _ _ c.halves.ensures.value c.halves-2.ensures.value stored in
    record { places = e; mentions = ap present e ∙ six_present i.row.s1 i.row.s2 u i.s1 i.s2 i.dst }
