use Rattle.std.proofs.Common.{◌≡◌, ℕ, ◌+◌, ◌<◌, ◌≤◌, List, [], ◌∷◌, ◌++◌, length, take, sym, refl, ap, ◌∙◌, subst, subst₂, arith, ◌↔◌}
use Rattle.std.specs.List.{AllByRecursion as All}
use Rattle.std.proofs.ByRecursion.{All-push}
use Rattle.std.proofs.lemmas.List.{length_push}
use Rattle.isa.specs.declared.condition.Condition.TheVariants.{Always}
use Rattle.admission.specs.declared.instruction.Instruction.{Instruction}
use Rattle.runs.specs.Valuations.{MayChange}
use Rattle.hazards.specs.Lengths.{packet_length}
use Rattle.constraints.specs.Schedules.{cycles}
use Rattle.flight.specs.declared.issued.InFlight.{InFlight}
use Rattle.flight.specs.Issues.{kept, SomeFrees}
use Rattle.flight.specs.Kept.{Performed}
use Rattle.flight.proofs.Growing.{cycles_push}
use Rattle.flight.proofs.Stepping.{Masks, issues, carries_on}
use Rattle.flight.proofs.Accepting.{none_later, masks_of, flying_on}
use Rattle.flight.proofs.history.History.accept.Goals as goal

pub returns : goal.returns
returns c = record {
  cases = record {
    room = c.if-self-ge512.false;
    lawful = refl;
    stands = λ start past stands.
        let h = c.args.self.now in
        let p = c.args.packet.now in
        let xs : List Instruction = p in
        let es : List InFlight = c.joined-entries.result in
        let m = c.changes-freed.result in
        let next : ℕ = h.cycle + c.from.result in
        let joined = c.joined-entries.ensures.joined start past stands in
        let lasts : c.packet_length.result ≡ packet_length xs = c.packet_length.ensures.value ∙ ap packet_length c.as_slice.ensures.entries in
        let grown = cycles_push past xs in
        let then : next ≡ cycles (past ++ xs ∷ []) = let t = stands.time in omega arith in
        let narrow : All (λ q. length q ≤ 8) (past ++ xs ∷ []) = All-push (λ q. length q ≤ 8) past xs stands.narrow c.as_slice.ensures.few in
        let freed : (i : ℕ) → i < 6 → (MayChange m i ↔ SomeFrees h.cycle next i es) =
        subst (λ (l : List InFlight). (i : ℕ) → i < 6 → MayChange m i ↔ SomeFrees h.cycle next i l) c.as_slice-2.ensures.entries
        (subst₂ (λ low high. (i : ℕ) → i < 6 → MayChange m i ↔ SomeFrees low high i c.as_slice-2.result.now) c.from-2.ensures c.from-3.ensures c.changes-freed.ensures.members) in
        let masks : Masks m past xs = masks_of past xs es joined.flying m h.cycle next stands.time then freed in
        let slice = c.as_slice-3.ensures.entries in
        let told : issues c.onward-self.result ≡ take 40 (kept next (issues es)) = c.onward-self.ensures.issued ∙ ap (λ l. take 40 (kept next (issues l))) slice in
        record {
          many = let e = stands.many in omega (arith, length_push past xs);
          time = then;
          narrow = narrow;
          reached = carries_on h.lawful start past xs (length past) Always h.reachable c.step-self.result m (omega arith) masks c.step-self.ensures.members stands.reached;
          flying = flying_on past xs es joined.flying next c.onward-self.result narrow then told;
          performed = c.onward-self.ensures.performed start past xs masks
              (subst (All (λ e. e.issued.place.packet ≤ length past)) (sym slice) (none_later past xs es joined.flying))
              (subst (All (Performed h.lawful start past)) (sym slice) joined.performed);
        };
  };
}
