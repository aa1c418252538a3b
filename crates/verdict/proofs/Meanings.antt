-- What each kind of claim says of two entries is what its constraint says of their instructions. Assumes nothing.
use Rattle.std.proofs.Common.{◌≡◌, ℕ, zero, suc, ◌+◌, ◌<◌, ◌≤◌, List, [], ◌∷◌, ◌++◌, map, length, get_or, Some, None, Option, sym, refl, ap, ◌∙◌, subst, ap₂, subst₂, inl, inr, ⊎_elim, arith}
use Rattle.std.specs.Option.{option_map}
use Rattle.std.proofs.ByRecursion.{all_kept_by}
use Rattle.std.proofs.lemmas.List.{take_all}
use Rattle.std.specs.List.{slice_get}
use Rattle.isa.specs.Classes.{delay}
use Rattle.isa.specs.declared.register.Register.{Register}
use Rattle.admission.specs.declared.instruction.Instruction.{Instruction}
use Rattle.admission.specs.declared.instruction.Write.{Write}
use Rattle.admission.specs.Landings.{landing}
use Rattle.admission.specs.Operands.{write_places}
use Rattle.runs.specs.declared.valuations.Valuations.{Valuations}
use Rattle.runs.proofs.Carrying.{both_there, both_back}
use Rattle.admission.specs.declared.instruction.Landing.{Landing}
use Rattle.claims.specs.declared.write.WriteClaim.{WriteClaim}
use Rattle.claims.specs.Kinds.{SameUnit, TwoLongNops, SameDataPath, NonalignedPair, CrossOperands}
use Rattle.claims.specs.Landings.{port_claim, SamePort, landings, SameLanding, DoubleWrite}
use Rattle.claims.specs.Mutual.{same_port_mutual, double_write_mutual}
use Rattle.constraints.specs.Schedules.{cycles, issue, Stands, May}
use Rattle.constraints.specs.Constraints.{WriteTogether, Beside}
use Rattle.constraints.proofs.Moving.{none_some, some_one}
use Rattle.constraints.proofs.Reordering.{stands_before, stands_inside}
use Rattle.flight.specs.declared.issued.InFlight.{InFlight}
use Rattle.flight.specs.Issues.{slots, positions, live, kept}
use Rattle.flight.specs.Kept.{Performed, FlightOf, Joined}
use Rattle.flight.proofs.Entries.{all_at}
use Rattle.flight.proofs.Flying.{writes_delay, flight_has}
use Rattle.flight.proofs.Growing.{issue_before}
use Rattle.flight.proofs.Joining.{flight_behind}
use Rattle.flight.proofs.Keeping.{Ordered, slots_ordered, kept_ordered}
use Rattle.flight.proofs.Positions.{FromPackets, positions_sound}
use Rattle.flight.proofs.Stepping.{issues}
use Rattle.verdict.proofs.Finding.{Lined, entry_behind, entry_old, Says}

-- the entries of a packet alone
pub lined_own : (past : List (List Instruction)) (xs : List Instruction) (zs : List InFlight) → issues zs ≡ slots (length past) (cycles past) 0 xs → Lined past xs zs 0
lined_own past xs zs e = record {
  ahead = [];
  many = refl;
  made = e;
  old = λ a q h. absurd (none_some q h);
  order = subst Ordered (sym e) (slots_ordered (length past) (cycles past) 0 xs);
}

-- the entries in flight, and then those of a packet
pub lined_all : (past : List (List Instruction)) (xs : List Instruction) (zs : List InFlight) (f : ℕ) → f ≡ length (kept (cycles past) (positions 0 0 past)) → FlightOf (past ++ xs ∷ []) (cycles past) zs → Lined past xs zs f
lined_all past xs zs f e flight = record {
  ahead = kept (cycles past) (positions 0 0 past);
  many = sym e;
  made = flight ∙ flight_behind past xs;
  old = λ a q h.
      let from = all_at (FromPackets 0 0 past) (kept (cycles past) (positions 0 0 past)) a q (all_kept_by (live (cycles past)) (FromPackets 0 0 past) (positions 0 0 past) (positions_sound 0 0 past)) h in
      let p = from.packet in
      let n : from.turn ≡ q.place.packet = omega arith in
      let c = from.cycle in
      let same : issue past from.turn ≡ issue past q.place.packet = ap (λ (m : ℕ). issue past m) n in
      (subst (λ (m : ℕ). Stands past m q.place.slot q.instruction) n from.stands, omega arith);
  order = subst Ordered (sym flight) (kept_ordered (cycles past) (past ++ xs ∷ []));
}

-- constraints on one packet
module _ (lawful start : Valuations) (past : List (List Instruction)) (xs : List Instruction) (zs : List InFlight) (lined : Lined past xs zs 0) where
  pub beside_says : (n : ℕ) → n < 18 → (R : Instruction → Instruction → Type 0) → ((x y : Instruction) → Beside n x y → R x y) → ((x y : Instruction) → R x y → Beside n x y)
      → ((x y : Instruction) → R x y → R y x) → Says lawful start past xs zs 0 n (λ e g. R e.issued.instruction g.issued.instruction)
  beside_says n small R to from swap = record {
    sound = λ a b e g ea eb le m. inl ((entry_behind past xs zs 0 lined a e ea (omega arith)).packet, from e.issued.instruction g.issued.instruction m);
    complete = λ a b e g ea eb le c. ⊎_elim (λ (p, s). to e.issued.instruction g.issued.instruction s) (⊎_elim (λ (z, _). absurd (omega arith)) (λ (z, _, _). absurd (omega arith))) c;
    swaps = λ e g m. swap e.issued.instruction g.issued.instruction m;
    reaches = λ k s t x y st at-t c.
        let lt = stands_inside past k s x st in
        absurd (⊎_elim (λ (p, _). omega arith) (⊎_elim (λ (z, _). omega arith) (λ (z, _, _). omega arith)) c);
  }

module _ (x y : Instruction) where
  pub beside_unit : Beside 11 x y → SameUnit x y
  beside_unit = ⊎_elim (λ (e, s). s) (⊎_elim (λ (e, _). absurd (omega arith)) (⊎_elim (λ (e, _). absurd (omega arith)) (⊎_elim (λ (e, _). absurd (omega arith)) (λ (e, _). absurd (omega arith)))))

  pub beside_nop : Beside 12 x y → TwoLongNops x y
  beside_nop = ⊎_elim (λ (e, _). absurd (omega arith)) (⊎_elim (λ (e, s). s) (⊎_elim (λ (e, _). absurd (omega arith)) (⊎_elim (λ (e, _). absurd (omega arith)) (λ (e, _). absurd (omega arith)))))

  pub beside_path : Beside 13 x y → SameDataPath x y
  beside_path = ⊎_elim (λ (e, _). absurd (omega arith)) (⊎_elim (λ (e, _). absurd (omega arith)) (⊎_elim (λ (e, s). s) (⊎_elim (λ (e, _). absurd (omega arith)) (λ (e, _). absurd (omega arith)))))

  pub beside_aligned : Beside 14 x y → NonalignedPair x y
  beside_aligned = ⊎_elim (λ (e, _). absurd (omega arith)) (⊎_elim (λ (e, _). absurd (omega arith)) (⊎_elim (λ (e, _). absurd (omega arith)) (⊎_elim (λ (e, s). s) (λ (e, _). absurd (omega arith)))))

  pub beside_cross : Beside 15 x y → CrossOperands x y
  beside_cross = ⊎_elim (λ (e, _). absurd (omega arith)) (⊎_elim (λ (e, _). absurd (omega arith)) (⊎_elim (λ (e, _). absurd (omega arith)) (⊎_elim (λ (e, _). absurd (omega arith)) (λ (e, s). s))))

  pub beside_none : (n : ℕ) → 15 < n → Beside n x y → ⊥
  beside_none n h = ⊎_elim (λ (e, _). omega arith) (⊎_elim (λ (e, _). omega arith) (⊎_elim (λ (e, _). omega arith) (⊎_elim (λ (e, _). omega arith) (λ (e, _). omega arith))))

-- the landings of writes, place by place
landing_write : (c : ℕ) (ws : List (Option Write)) (i : ℕ) (l : Landing) → get_or (map (option_map (landing c)) ws) i None ≡ Some l → (v : Write) × (get_or ws i None ≡ Some v) × (landing c v ≡ l)
landing_write c [] i l e = absurd (none_some l e)
landing_write c (None ∷ ws) zero l e = absurd (none_some l e)
landing_write c (Some v ∷ ws) zero l e = (v, refl, some_one (landing c v) l e)
landing_write c (w ∷ ws) (suc i) l e = landing_write c ws i l e

write_landing : (c : ℕ) (ws : List (Option Write)) (i : ℕ) (v : Write) → get_or ws i None ≡ Some v → get_or (map (option_map (landing c)) ws) i None ≡ Some (landing c v)
write_landing c [] i v e = absurd (none_some v e)
write_landing c (w ∷ ws) zero v e = ap (option_map (landing c)) e
write_landing c (w ∷ ws) (suc i) v e = write_landing c ws i v e

module _ (x : Instruction) (c : ℕ) (y : Instruction) (d : ℕ) (s t : Valuations) where
  together_of : SameLanding (record { landings = landings x c; performed = s }) (record { landings = landings y d; performed = t }) → WriteTogether x c y d
  together_of (i, j, l, hi, hj, ei, ej) =
      let (v, at-v, lv) = landing_write c (write_places x) i l ei in
      let (w, at-w, lw) = landing_write d (write_places y) j l ej in
      let same = lv ∙ sym lw in
      (v, w, (i, hi, at-v), (j, hj, at-w), ap (λ (z : Landing). z.register) same, ap (λ (z : Landing). z.cycle) same)

  of_together : WriteTogether x c y d → SameLanding (record { landings = landings x c; performed = s }) (record { landings = landings y d; performed = t })
  of_together (v, w, (i, hi, at-v), (j, hj, at-w), er, ec) =
      let same : landing d w ≡ landing c v = ap₂ (λ (r : Register) (n : ℕ). record { register = r; cycle = n }) (sym er) (sym ec) in
      (i, j, landing c v, hi, hj, write_landing c (write_places x) i v at-v, write_landing d (write_places y) j w at-w ∙ ap Some same)

-- constraints on what is in flight
module _ (lawful start : Valuations) (past : List (List Instruction)) (xs : List Instruction) (zs : List InFlight) (f : ℕ) (lined : Lined past xs zs f) (joined : Joined lawful start past xs zs) where
  entry_issue : (a : ℕ) (e : InFlight) → slice_get zs a ≡ Some e → e.issued.issue ≡ issue past e.issued.place.packet
  entry_issue a e h =
      ⊎_elim (λ lt. (entry_old past xs zs f lined a e h lt).1)
      (λ le. let b = entry_behind past xs zs f lined a e h le in
      b.cycle ∙ sym (ap (λ (m : ℕ). issue past m) b.packet ∙ ap cycles (take_all (length past) past (omega arith)))) (Rattle.std.proofs.lemmas.Bool.cases_lt a f)

  -- an instruction that may still have something to land is among the entries
  reached_by : (k s : ℕ) (x : Instruction) → Stands past k s x → cycles past ≤ issue past k + delay x.row.class + 1
      → (a : ℕ) × (e : InFlight) × (a < f) × (slice_get zs a ≡ Some e) × (e.issued.place.packet ≡ k) × (e.issued.place.slot ≡ s) × (e.issued.instruction ≡ x)
  reached_by k s x st h =
      let lt = stands_inside past k s x st in
      let same = issue_before past xs k (omega arith) in
      let (a, e, at-e, is) = flight_has (past ++ xs ∷ []) (cycles past) zs joined.flying k s x (stands_before past xs k s x st) (omega arith) in
      let p = is.packet in
      (a, e, ⊎_elim (λ l. l) (λ le. let b = (entry_behind past xs zs f lined a e at-e le).packet in absurd (omega arith)) (Rattle.std.proofs.lemmas.Bool.cases_lt a f), at-e, p, is.slot, is.instruction)

  pub port_says : Says lawful start past xs zs f 18 (λ e g. SamePort (port_claim e.issued.instruction e.issued.issue) (port_claim g.issued.instruction g.issued.issue))
  port_says = record {
    sound = λ a b e g ea eb le m. inr (inl (refl, subst₂ (λ (c d : ℕ). SamePort (port_claim e.issued.instruction c) (port_claim g.issued.instruction d)) (entry_issue a e ea) (entry_behind past xs zs f lined b g eb le).cycle m));
    complete = λ a b e g ea eb le c.
        ⊎_elim (λ (p, s). absurd (beside_none e.issued.instruction g.issued.instruction 18 (omega arith) s))
        (⊎_elim
        (λ (z, m). subst₂ (λ (c d : ℕ). SamePort (port_claim e.issued.instruction c) (port_claim g.issued.instruction d)) (sym (entry_issue a e ea)) (sym (entry_behind past xs zs f lined b g eb le).cycle) m)
        (λ (z, _, _). absurd (omega arith))) c;
    swaps = λ e g m. same_port_mutual (port_claim e.issued.instruction e.issued.issue) (port_claim g.issued.instruction g.issued.issue) m;
    reaches = λ k s t x y st at-t c.
        ⊎_elim (λ (p, b). absurd (beside_none x y 18 (omega arith) b))
        (⊎_elim (λ (z, (side, p, q, landed, no-share)). reached_by k s x st (omega arith)) (λ (z, _, _). absurd (omega arith))) c;
  }

  -- the claim of an entry's writes
  abbrev pub write_of : InFlight → WriteClaim
  write_of e = record { landings = landings e.issued.instruction e.issued.issue; performed = e.performed }

  carried : (a : ℕ) (e : InFlight) → slice_get zs a ≡ Some e → Performed lawful start past e
  carried a e h = all_at (Performed lawful start past) zs a e joined.performed h

  carried_last : (b : ℕ) (g : InFlight) → slice_get zs b ≡ Some g → f ≤ b → Rattle.runs.specs.Runs.Carries lawful start (May past) (length past) (length past) g.issued.instruction.condition g.performed
  carried_last b g h le =
      subst (λ (j : ℕ). Rattle.runs.specs.Runs.Carries lawful start (May past) (length past) j g.issued.instruction.condition g.performed) (entry_behind past xs zs f lined b g h le).packet (carried b g h)

  pub write_says : Says lawful start past xs zs f 19 (λ e g. DoubleWrite (write_of e) (write_of g))
  write_says = record {
    sound = λ a b e g ea eb le (same, shared).
        inr (inr (
          refl,
          subst₂ (λ (c d : ℕ). WriteTogether e.issued.instruction c g.issued.instruction d) (entry_issue a e ea) (entry_behind past xs zs f lined b g eb le).cycle
              (together_of e.issued.instruction e.issued.issue g.issued.instruction g.issued.issue e.performed g.performed same),
          both_there lawful start (May past) (length past) e.issued.place.packet e.issued.instruction.condition g.issued.instruction.condition e.performed g.performed (carried a e ea) (carried_last b g eb le) shared,
        ));
    complete = λ a b e g ea eb le c.
        ⊎_elim (λ (p, s). absurd (beside_none e.issued.instruction g.issued.instruction 19 (omega arith) s))
        (⊎_elim (λ (z, _). absurd (omega arith))
        (λ (z, tog, both). (
          of_together e.issued.instruction e.issued.issue g.issued.instruction g.issued.issue e.performed g.performed
              (subst₂ (λ (c d : ℕ). WriteTogether e.issued.instruction c g.issued.instruction d) (sym (entry_issue a e ea)) (sym (entry_behind past xs zs f lined b g eb le).cycle) tog),
          both_back lawful start (May past) (length past) e.issued.place.packet e.issued.instruction.condition g.issued.instruction.condition e.performed g.performed (carried a e ea) (carried_last b g eb le) both,
        ))) c;
    swaps = λ e g m. double_write_mutual (write_of e) (write_of g) m;
    reaches = λ k s t x y st at-t c.
        ⊎_elim (λ (p, b). absurd (beside_none x y 19 (omega arith) b))
        (⊎_elim (λ (z, _). absurd (omega arith)) (λ (z, (v, w, wv, ww, er, ec), _). let small = writes_delay x v wv in reached_by k s x st (omega arith))) c;
  }
