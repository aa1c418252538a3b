use Rattle.std.proofs.Common.{◌≤◌, ◌++◌, length, take, sym, ap, ◌∙◌, subst, arith}
use Rattle.std.specs.List.{AllByRecursion as All}
use Rattle.std.proofs.ByRecursion.{All-take}
use Rattle.std.proofs.lemmas.List.{take_all}
use Rattle.flight.specs.Issues.{slots}
use Rattle.flight.specs.Kept.{Performed}
use Rattle.flight.proofs.Joining.{added_none, added_more, length_added, joined_flight}
use Rattle.flight.proofs.Stepping.{issues, all_added}
use Rattle.flight.proofs.history.History.joined.Goals as goal

pub loop-slot-init : goal.loop-slot-init
loop-slot-init c =
    let h = c.args.self.now in
    let copied = c.from_slice-entries.ensures.entries ∙ ap (take 48) c.as_slice.ensures.entries in (
      added_none h.packets h.cycle c.as_slice-instructions.result.now h.flight _ c.as_slice.ensures.few copied,
      λ start past stands. subst (All (Performed h.lawful start past)) (sym copied) (All-take (Performed h.lawful start past) 48 h.flight stands.performed),
    )

pub loop-slot-preserved : goal.loop-slot-preserved
loop-slot-preserved c =
    let h = c.args.self.now in
    let xs = c.as_slice-instructions in
    let short : length xs.result.now ≤ 8 = subst (λ l. length l ≤ 8) (sym xs.ensures.entries) xs.ensures.few in
    let pushed = c.push.ensures.entries in (
      added_more h.packets h.cycle xs.result.now h.flight c.loop-slot.slot _ c.entry.result c.loop-slot.entries c.push.new.self c.as_slice.ensures.few short c.loop-slot-test.true c.entry.ensures.issued pushed
          c.loop-slot.invariant.0,
      λ start past stands. all_added (Performed h.lawful start past) 48 c.loop-slot.entries c.push.new.self c.entry.result pushed (c.loop-slot.invariant.1 start past stands) (c.entry.ensures.performed start past stands),
    )

pub returns : goal.returns
returns c =
    let h = c.args.self.now in
    let xs = c.as_slice-instructions in
    let n = c.loop-slot.slot in
    let added = c.loop-slot.invariant.0 in
    let all = added ∙ ap (λ l. issues h.flight ++ slots h.packets h.cycle 0 l) (take_all n xs.result.now (omega arith) ∙ xs.ensures.entries) in
    record {
      issued = all;
      many = omega (arith, length_added h.packets h.cycle xs.result.now h.flight n c.loop-slot.entries (omega arith) added, ap length xs.ensures.entries);
      few = omega (arith, length_added h.packets h.cycle xs.result.now h.flight n c.loop-slot.entries (omega arith) added, c.as_slice.ensures.few, xs.ensures.few, ap length xs.ensures.entries);
      joined = λ start past stands. record {
        flying = joined_flight past c.args.packet.now h.packets h.cycle h.flight c.loop-slot.entries stands.many stands.time stands.flying all;
        performed = c.loop-slot.invariant.1 start past stands;
      };
    }
