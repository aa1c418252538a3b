-- One of a list, and the stall of a packet. Assumes nothing.
use Rattle.std.proofs.Common.{◌≡◌, ◌↔◌, MatchBool, ℕ, ◌+◌, ◌<◌, Bool, true, false, List, length, get_or, Some, None, Decides, Option, sym, refl, ap, ◌∙◌, subst, arith}
use Rattle.std.proofs.lemmas.Bool.{both_ways}
use Rattle.std.specs.List.{AllWithin, HoldsAt}
use Rattle.std.proofs.lemmas.Option.{slice_get_within, get_or_from_slice_get}
use Rattle.isa.specs.declared.register.Register.{Register}
use Rattle.admission.specs.declared.instruction.Instruction.{Instruction}
use Rattle.admission.specs.declared.instruction.Write.{Write}
use Rattle.admission.specs.Operands.{write_places}
use Rattle.constraints.specs.Schedules.{cycles, Stalls}
use Rattle.flight.specs.declared.issued.InFlight.{InFlight}
use Rattle.flight.specs.Issues.{SettledBy, SomeWaits}
use Rattle.flight.specs.Kept.{FlightOf}
use Rattle.flight.proofs.Flying.{landing_has, landing_of}
use Rattle.flight.proofs.Entries.{Any, some_at}

-- an answer that a search of a list gives, by the places at which elements stand
pub decided_by_any : {X : Type 0} (P : X → Type 0) (xs : List X) (b : Bool)
    → MatchBool b ((k : ℕ) × (k < length xs) × HoldsAt P xs k) (AllWithin (λ x. P x → ⊥) xs 0 (length xs)) → (b ≡ true) ↔ Any P xs
decided_by_any P xs true (k, hk, holds) = (λ t. some_at P xs k hk holds, λ a. refl)
decided_by_any P xs false never = (
  λ t. absurd (both_ways false refl t),
  λ (k, x, e, p). absurd (never k x (omega arith) (slice_get_within xs k x e) (subst P (sym (get_or_from_slice_get xs k x x e)) p)),
)

-- an instruction waits for an entry in flight just where the packet stalls
settled_some : (issue c : ℕ) (r : Register) (o : Option Write) → SettledBy issue r c o → (w : Write) × (o ≡ Some w) × (w.register ≡ r) × (w.load ≡ false) × (issue + w.delay + 1 ≡ c)
settled_some issue c r None s = absurd s
settled_some issue c r (Some w) (a, b, d) = (w, refl, a, b, d)

pub waits_stalls : (past : List (List Instruction)) (xs : List Instruction) (es : List InFlight) (c : ℕ) → c ≡ cycles past → FlightOf past (cycles past) es → (b : Bool) → Decides b (SomeWaits c es xs) → Decides b (Stalls past xs)
waits_stalls past xs es c time flight b (there, back) = (λ t. stalls (there t), λ s. back (waits s))
  where
    stalls : SomeWaits c es xs → Stalls past xs
    stalls (t, x, at_x, (r, cross, s2, (a, e, at-e, (j, hj, s)))) =
        let (w, is, reg, load, d) = settled_some e.issued.issue c r (get_or (write_places e.issued.instruction) j None) s in (
          t,
          e.issued.issue + w.delay,
          x,
          w,
          at_x,
          cross,
          s2 ∙ ap Some (sym reg),
          landing_of past (cycles past) es flight a e w at-e (j, hj, is),
          load,
          omega arith,
        )

    waits : Stalls past xs → SomeWaits c es xs
    waits (t, d, x, w, at_x, cross, s2, l, load, then) =
        let (a, e, at-e, ((j, hj, is), when)) = landing_has past (cycles past) es flight d w l (omega arith) in
        (t, x, at_x, (w.register, cross, s2, (a, e, at-e, (j, hj, subst (SettledBy e.issued.issue w.register c) (sym is) (refl, load, omega arith)))))
