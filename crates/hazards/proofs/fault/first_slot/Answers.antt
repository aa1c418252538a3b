use Rattle.std.proofs.Common.{◌+◌, take, rules}
use Rattle.std.proofs.lemmas.Iterator.{first_from_Range}
use borrow.Author.Tests.{tests}
use Rattle.hazards.proofs.Slots.{first_slot_of}
use Rattle.hazards.proofs.fault.first_slot.Goals as goal

pub returns : goal.returns
returns g c =
    let k = c.args.kind.now in
    let Fault = g.F.PacketFault.fault k in
    let found = first_from_Range _ _ _ c.find.result (λ n. Fault (take (n + 1) c.args.packet.now)) (λ n. Fault (take (n + 1) c.args.packet.now) → ⊥) c.find.ensures.ran
    (λ x q e. search (rules, tests)) (λ x q e. search (rules, tests)) in
    record { cases = first_slot_of Fault c.args.packet.now (g.met.F.PacketFault.none k) c.find.result found }
