use Rattle.std.proofs.Common.{List, ap, ◌∙◌, subst}
use Rattle.admission.specs.declared.instruction.Instruction.{Instruction}
use Rattle.hazards.specs.Lengths.{packet_length}
use Rattle.constraints.specs.Faults.{AcceptedAs, RefusedWith}
use Rattle.verdict.specs.Parts.{Passes, FaultFrom}
use Rattle.verdict.proofs.Verdicts.{exit, passes_none, passes_then, breaks_low, own_slots, front_of, refused_of}
use Rattle.verdict.proofs.judge.judge.Goals as goal

pub returns-in_err-beside-clause-verdict : goal.returns-in_err-beside-clause-verdict
returns-in_err-beside-clause-verdict c = λ start past stands.
    let h = c.args.history.now in
    let xs : List Instruction = c.args.packet.now in
    let own = own_slots xs stands c.as_slice-instructions.ensures.few c.in_flight-from.ensures.value c.joined-entries.ensures.issued c.as_slice.ensures.entries c.from_slice-own.ensures.entries in
    exit (AcceptedAs h.lawful start past xs) (RefusedWith h.lawful start past xs) c.from_residual.result c.in_err-beside.field-0.0 c.from_residual.ensures.1
    (refused_of h.lawful start past xs 11 c.in_err-beside.field-0.0 (passes_none h.lawful start past xs 11) (c.in_err-beside.ensures.cases h.lawful start past xs own))

pub returns-in_err-counted-clause-verdict : goal.returns-in_err-counted-clause-verdict
returns-in_err-counted-clause-verdict c = λ start past stands.
    let h = c.args.history.now in
    let xs : List Instruction = c.args.packet.now in
    let own = own_slots xs stands c.as_slice-instructions.ensures.few c.in_flight-from.ensures.value c.joined-entries.ensures.issued c.as_slice.ensures.entries c.from_slice-own.ensures.entries in
    let first = c.in_ok-beside.ensures.cases h.lawful start past xs own in
    let many = c.packets.ensures.value ∙ stands.many in
    let slice = c.as_slice-instructions.ensures.entries in
    exit (AcceptedAs h.lawful start past xs) (RefusedWith h.lawful start past xs) c.from_residual-in_err-counted.result c.in_err-counted.field-0.0 c.from_residual-in_err-counted.ensures.1
    (refused_of h.lawful start past xs 16 c.in_err-counted.field-0.0 first (subst (λ (l : List Instruction). FaultFrom h.lawful start past l 16 c.in_err-counted.field-0.0) slice (c.in_err-counted.ensures.cases h.lawful start past many)))

pub returns-in_err-flying-clause-verdict : goal.returns-in_err-flying-clause-verdict
returns-in_err-flying-clause-verdict c = λ start past stands.
    let h = c.args.history.now in
    let xs : List Instruction = c.args.packet.now in
    let own = own_slots xs stands c.as_slice-instructions.ensures.few c.in_flight-from.ensures.value c.joined-entries.ensures.issued c.as_slice.ensures.entries c.from_slice-own.ensures.entries in
    let first = c.in_ok-beside.ensures.cases h.lawful start past xs own in
    let many = c.packets.ensures.value ∙ stands.many in
    let slice = c.as_slice-instructions.ensures.entries in
    let second : Passes h.lawful start past xs 16 18 = subst (λ (l : List Instruction). Passes h.lawful start past l 16 18) slice (c.in_ok-counted.ensures.cases h.lawful start past many) in
    let before = passes_then h.lawful start past xs 11 16 18 first second in
    let front = front_of past h.flight c.in_flight-from.result c.in_flight-from.ensures.value stands.flying in
    let joined = c.joined-entries.ensures.joined start past stands in
    exit (AcceptedAs h.lawful start past xs) (RefusedWith h.lawful start past xs) c.from_residual-in_err-flying.result c.in_err-flying.field-0.0 c.from_residual-in_err-flying.ensures.1
    (refused_of h.lawful start past xs 18 c.in_err-flying.field-0.0 before (c.in_err-flying.ensures.cases h.lawful start past xs front joined))

pub returns-clause-verdict : goal.returns-clause-verdict
returns-clause-verdict c = λ start past stands.
    let h = c.args.history.now in
    let xs : List Instruction = c.args.packet.now in
    let own = own_slots xs stands c.as_slice-instructions.ensures.few c.in_flight-from.ensures.value c.joined-entries.ensures.issued c.as_slice.ensures.entries c.from_slice-own.ensures.entries in
    let first = c.in_ok-beside.ensures.cases h.lawful start past xs own in
    let many = c.packets.ensures.value ∙ stands.many in
    let slice = c.as_slice-instructions.ensures.entries in
    let second : Passes h.lawful start past xs 16 18 = subst (λ (l : List Instruction). Passes h.lawful start past l 16 18) slice (c.in_ok-counted.ensures.cases h.lawful start past many) in
    let before = passes_then h.lawful start past xs 11 16 18 first second in
    let front = front_of past h.flight c.in_flight-from.result c.in_flight-from.ensures.value stands.flying in
    let joined = c.joined-entries.ensures.joined start past stands in
    let all = passes_then h.lawful start past xs 11 18 20 before (c.in_ok-flying.ensures.cases h.lawful start past xs front joined) in
    record {
      sound = λ n b. let bounds = breaks_low h.lawful start past xs n b in all n bounds.0 bounds.1 b;
      issue = c.cycle.ensures.value ∙ stands.time;
      lasts = c.packet_length.ensures.value ∙ ap packet_length c.as_slice-instructions.ensures.entries;
      stall = c.stalls.ensures.decides start past stands;
    }
