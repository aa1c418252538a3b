-- Entries that are the flight of a schedule: each stands there, each that may still land is one of them, in order. Assumes nothing.
use Rattle.std.proofs.Common.{◌≡◌, ℕ, zero, suc, ◌+◌, ◌<◌, ◌≤◌, Bool, true, false, cond, List, [], ◌∷◌, ◌++◌, map, get_or, Some, None, Option, sym, ap, subst, arith, le-leb}
use Rattle.std.specs.Option.{option_map}
use Rattle.std.specs.List.{AllByRecursion as All}
use Rattle.std.proofs.ByRecursion.{all_kept_by}
use Rattle.std.specs.List.{slice_get}
use Rattle.isa.specs.Classes.{delay}
use Rattle.isa.specs.declared.class.Class.{Class}
use Rattle.isa.specs.declared.register.Register.{Register}
use Rattle.isa.specs.declared.width.Width.{Width}
use Rattle.isa.specs.declared.width.Width.TheVariants.{Absent, Single, Pair}
use Rattle.admission.specs.declared.instruction.Instruction.{Instruction}
use Rattle.admission.specs.declared.instruction.Write.{Write}
use Rattle.admission.specs.Operands.{halves, result_width, result_write, base_write}
use Rattle.constraints.specs.Schedules.{issue, Stands, Writes, Lands}
use Rattle.constraints.proofs.Moving.{none_some, some_one}
use Rattle.flight.specs.declared.issued.InFlight.{InFlight}
use Rattle.flight.specs.Issues.{positions, live}
use Rattle.flight.specs.Kept.{FlightOf}
use Rattle.flight.proofs.Entries.{Any, all_at, at_map, any_map, any_kept}
use Rattle.flight.proofs.Positions.{FromPackets, positions_sound, Is, positions_has}
use Rattle.flight.proofs.Keeping.{EarlierPlace, Ordered, kept_ordered, ordered_at}

-- an option that is mapped to some was some
mapped_some : {X Y : Type 0} (f : X → Y) (o : Option X) (y : Y) → option_map f o ≡ Some y → (x : X) × (f x ≡ y)
mapped_some f None y e = absurd (none_some y e)
mapped_some f (Some x) y e = (x, some_one (f x) y e)

-- no write of an instruction takes longer than its class
module _ (k : Class) (u : Bool) (base : Option Register) (v : Write) where
  abbrev late : List (Option Register) → List (Option Write)
  late l = map (option_map (result_write k)) l ++ (cond u (option_map base_write base) None ∷ [])

  of_result : (o : Option Register) → option_map (result_write k) o ≡ Some v → v.delay ≤ delay k
  of_result o e = let (r, same) = mapped_some (result_write k) o v e in let d = ap (λ (x : Write). x.delay) same in omega arith

  of_base : (b : Bool) → cond b (option_map base_write base) None ≡ Some v → v.delay ≤ delay k
  of_base true e = let (r, same) = mapped_some base_write base v e in let d = ap (λ (x : Write). x.delay) same in omega arith
  of_base false e = absurd (none_some v e)

  by_place : (o p : Option Register) (j : ℕ) → get_or (late (o ∷ p ∷ [])) j None ≡ Some v → v.delay ≤ delay k
  by_place o p zero e = of_result o e
  by_place o p (suc zero) e = of_result p e
  by_place o p (suc (suc zero)) e = of_base u e
  by_place o p (suc (suc (suc j))) e = absurd (none_some v e)

  by_width : (w : Width) (o : Option Register) (j : ℕ) → get_or (late (halves w o)) j None ≡ Some v → v.delay ≤ delay k
  by_width Absent o j e = by_place None None j e
  by_width Single o j e = by_place o None j e
  by_width Pair o j e = by_place o (option_map Rattle.isa.specs.Registers.odd_of o) j e

pub writes_delay : (x : Instruction) (w : Write) → Writes x w → w.delay ≤ delay x.row.class
writes_delay x w (j, hj, e) = by_width x.row.class x.update x.s2 w (result_width x.row.class x.row.dst) x.dst j e

module _ (ps : List (List Instruction)) (c : ℕ) (es : List InFlight) (flight : FlightOf ps c es) where
  -- each entry stands in the schedule
  pub flight_sound : (a : ℕ) (e : InFlight) → slice_get es a ≡ Some e
      → Stands ps e.issued.place.packet e.issued.place.slot e.issued.instruction × (e.issued.issue ≡ issue ps e.issued.place.packet)
  flight_sound a e h =
      let all = subst (All (FromPackets 0 0 ps)) (sym flight) (all_kept_by (live c) (FromPackets 0 0 ps) (positions 0 0 ps) (positions_sound 0 0 ps)) in
      let f = all_at (FromPackets 0 0 ps) (map (λ e. e.issued) es) a e.issued all (at_map (λ e. e.issued) es a e h) in
      let p = f.packet in
      let n : f.turn ≡ e.issued.place.packet = omega arith in (
        subst (λ (m : ℕ). Stands ps m e.issued.place.slot e.issued.instruction) n f.stands,
        let d = f.cycle in
            let same : issue ps f.turn ≡ issue ps e.issued.place.packet = ap (λ (m : ℕ). issue ps m) n in
            omega arith,
      )

  -- an instruction that may still have something to land is one of them
  pub flight_has : (k s : ℕ) (x : Instruction) → Stands ps k s x → c ≤ issue ps k + delay x.row.class + 1 → Any (λ e. Is k s (issue ps k) x e.issued) es
  flight_has k s x st h =
      let (a, q, at-q, is) = positions_has 0 0 ps k s x st in
      let d : q.issue ≡ issue ps k = let y = is.cycle in omega arith in
      let same = ap (λ (i : Instruction). delay i.row.class) is.instruction in
      let alive : live c q ≡ true = le-leb c (q.issue + delay q.instruction.row.class + 1) (omega arith) in
      let there : Is k s (issue ps k) x q = record { packet = let y = is.packet in omega arith; slot = is.slot; cycle = d; instruction = is.instruction } in
      (any_map (λ e. e.issued) (Is k s (issue ps k) x) es).0
      (subst (Any (Is k s (issue ps k) x)) (sym flight) ((any_kept (live c) (Is k s (issue ps k) x) (positions 0 0 ps)).1 (a, q, at-q, (there, alive))))

  -- of two entries, the first stands at the earlier place
  pub flight_ordered : (a b : ℕ) (e f : InFlight) → slice_get es a ≡ Some e → slice_get es b ≡ Some f → a < b → EarlierPlace e.issued f.issued
  flight_ordered a b e f ea eb h =
      ordered_at (map (λ e. e.issued) es) a b e.issued f.issued (subst Ordered (sym flight) (kept_ordered c ps)) (at_map (λ e. e.issued) es a e ea)
      (at_map (λ e. e.issued) es b f eb) h

  -- a write that lands in cycle d, no earlier than just before c, is one of theirs
  pub landing_has : (d : ℕ) (w : Write) → Lands ps d w → c ≤ d + 1 → Any (λ e. Writes e.issued.instruction w × (d ≡ e.issued.issue + w.delay)) es
  landing_has d w (k, s, x, st, wr, e) h =
      let small = writes_delay x w wr in
      let (a, f, at_f, is) = flight_has k s x st (omega arith) in
      (a, f, at_f, (subst (λ (y : Instruction). Writes y w) (sym is.instruction) wr, let y = is.cycle in omega arith))

  -- what an entry writes lands
  pub landing_of : (a : ℕ) (e : InFlight) (w : Write) → slice_get es a ≡ Some e → Writes e.issued.instruction w → Lands ps (e.issued.issue + w.delay) w
  landing_of a e w h wr = let (st, same) = flight_sound a e h in (e.issued.place.packet, e.issued.place.slot, e.issued.instruction, st, wr, omega arith)
