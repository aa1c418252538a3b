use Rattle.std.proofs.Common.{List, Decides, subst}
use Rattle.admission.specs.declared.instruction.Instruction.{Instruction}
use Rattle.flight.specs.declared.issued.InFlight.{InFlight}
use Rattle.flight.specs.Issues.{SomeWaits}
use Rattle.flight.proofs.Settling.{waits_stalls}
use Rattle.flight.proofs.history.History.stalls.Goals as goal

pub returns : goal.returns
returns c =
    let h = c.args.self.now in
    let b = c.some_waits.result in
    let xs = c.args.packet.now in
    record {
      decides = λ start past stands.
          waits_stalls past xs h.flight h.cycle stands.time stands.flying b
          (subst (λ (es : List InFlight). Decides b (SomeWaits h.cycle es xs)) c.as_slice-2.ensures.entries
          (subst (λ (l : List Instruction). Decides b (SomeWaits h.cycle c.as_slice-2.result.now l)) c.as_slice.ensures.entries c.some_waits.ensures.decides));
    }
