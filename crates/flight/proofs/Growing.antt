-- One packet more behind a schedule: what issues, lands and may change before it stays as it was. Assumes nothing.
use Rattle.std.proofs.Common.{◌≡◌, ℕ, ◌+◌, ◌<◌, ◌≤◌, List, [], ◌∷◌, ◌++◌, length, get_or, Some, None, Option, sym, refl, ap, ◌∙◌, subst, ⊎_elim, arith, ◌↔◌}
use Rattle.std.proofs.lemmas.List.{take-append-le, take_at, take_all, length_push}
use Rattle.std.proofs.lemmas.List.Sums.{sum_by-take-le, sum_by_push}
use Rattle.isa.specs.declared.condition.Condition.{Condition}
use Rattle.admission.specs.declared.instruction.Instruction.{Instruction}
use Rattle.admission.specs.declared.instruction.Write.{Write}
use Rattle.admission.specs.Operands.{write_places}
use Rattle.runs.specs.declared.valuations.Valuations.{Valuations}
use Rattle.runs.specs.Runs.{Carries}
use Rattle.runs.proofs.Carrying.{carries_like}
use Rattle.hazards.specs.Lengths.{packet_length}
use Rattle.constraints.specs.Schedules.{cycles, issue, Lands, Tested, May}
use Rattle.constraints.proofs.Reordering.{stands_push_cases, stands_before, stands_inside}
use Rattle.flight.specs.declared.issued.InFlight.{InFlight}
use Rattle.flight.specs.Issues.{FreedBy, SomeFrees}
use Rattle.flight.specs.Kept.{FlightOf}
use Rattle.flight.proofs.Flying.{landing_has, landing_of}

module _ (ps : List (List Instruction)) (p : List Instruction) where
  pub issue_before : (k : ℕ) → k ≤ length ps → issue (ps ++ p ∷ []) k ≡ issue ps k
  issue_before k h = ap cycles (take-append-le k ps (p ∷ []) h)

  pub issue_behind : issue (ps ++ p ∷ []) (length ps) ≡ cycles ps
  issue_behind = ap cycles (take_at ps (p ∷ []) (length ps) refl)

  pub issue_past : issue (ps ++ p ∷ []) (length ps + 1) ≡ cycles (ps ++ p ∷ [])
  issue_past = ap cycles (take_all (length ps + 1) (ps ++ p ∷ []) (omega (arith, length_push ps p)))

  pub cycles_push : cycles (ps ++ p ∷ []) ≡ cycles ps + packet_length p
  cycles_push = sum_by_push packet_length ps p

  lands_before : (c : ℕ) (w : Write) → Lands ps c w → Lands (ps ++ p ∷ []) c w
  lands_before c w (k, s, x, st, wr, e) =
      let same = issue_before k (let h = stands_inside ps k s x st in omega arith) in (k, s, x, stands_before ps p k s x st, wr, omega arith)

  lands_old : (c : ℕ) (w : Write) → c < cycles ps → Lands (ps ++ p ∷ []) c w → Lands ps c w
  lands_old c w h (k, s, x, st, wr, e) =
      ⊎_elim (λ old. let same = issue_before k (let h = stands_inside ps k s x old in omega arith) in (k, s, x, old, wr, omega arith))
      (λ (n, _). let same : issue (ps ++ p ∷ []) k ≡ cycles ps = ap (λ (m : ℕ). issue (ps ++ p ∷ []) m) n ∙ issue_behind in absurd (omega arith)) (stands_push_cases ps p k s x st)

  -- what may change before the last packet
  pub may_before : (k i : ℕ) → k < length ps → May ps k i → May (ps ++ p ∷ []) k i
  may_before k i h (c, w, l, low, high, t) =
      let a = issue_before k (omega arith) in
      let b = issue_before (k + 1) (omega arith) in
      (c, w, lands_before c w l, omega arith, omega arith, t)

  pub may_old : (k i : ℕ) → k < length ps → May (ps ++ p ∷ []) k i → May ps k i
  may_old k i h (c, w, l, low, high, t) =
      let a = issue_before k (omega arith) in
      let b = issue_before (k + 1) (omega arith) in
      let bound = sum_by-take-le packet_length ps (k + 1) in
      (c, w, lands_old c w (omega arith) l, omega arith, omega arith, t)

  -- runs up to the packet behind ps do not see it
  pub carries_before : (lawful start : Valuations) (j : ℕ) (c : Condition) (s : Valuations) → Carries lawful start (May ps) (length ps) j c s → Carries lawful start (May (ps ++ p ∷ [])) (length ps) j c s
  carries_before lawful start j c s =
      carries_like lawful start (length ps) (May ps) (May (ps ++ p ∷ [])) j c s (λ k i hk hi. may_before k i hk) (λ k i hk hi. may_old k i hk)

freed_some : (issue low high i : ℕ) (o : Option Write) → FreedBy issue low high i o
    → (w : Write) × (o ≡ Some w) × (low ≤ issue + w.delay) × (issue + w.delay < high) × Tested w.register i
freed_some issue low high i None f = absurd f
freed_some issue low high i (Some w) (a, b, t) = (w, refl, a, b, t)

-- what the entries in flight free is what may change from the last packet to the one behind
pub frees_may : (ps : List (List Instruction)) (p : List Instruction) (es : List InFlight) → FlightOf (ps ++ p ∷ []) (cycles ps) es
    → (i : ℕ) → SomeFrees (cycles ps) (cycles (ps ++ p ∷ [])) i es ↔ May (ps ++ p ∷ []) (length ps) i
frees_may ps p es flight i = (there, back)
  where
    there : SomeFrees (cycles ps) (cycles (ps ++ p ∷ [])) i es → May (ps ++ p ∷ []) (length ps) i
    there (a, e, at-e, (j, hj, f)) =
        let (w, is, low, high, t) = freed_some e.issued.issue (cycles ps) (cycles (ps ++ p ∷ [])) i (get_or (write_places e.issued.instruction) j None) f in
        let lo = issue_behind ps p in
        let hi = issue_past ps p in (
          e.issued.issue + w.delay,
          w,
          landing_of (ps ++ p ∷ []) (cycles ps) es flight a e w at-e (j, hj, is),
          omega arith,
          omega arith,
          t,
        )

    back : May (ps ++ p ∷ []) (length ps) i → SomeFrees (cycles ps) (cycles (ps ++ p ∷ [])) i es
    back (c, w, l, low, high, t) =
        let lo = issue_behind ps p in
        let hi = issue_past ps p in
        let (a, e, at-e, ((j, hj, is), d)) = landing_has (ps ++ p ∷ []) (cycles ps) es flight c w l (omega arith) in
        (a, e, at-e, (j, hj, subst (FreedBy e.issued.issue (cycles ps) (cycles (ps ++ p ∷ [])) i) (sym is) (omega arith, omega arith, t)))
