-- What is kept stands for one packet more. Assumes nothing.
use Rattle.std.proofs.Common.{◌≡◌, ℕ, ◌+◌, ◌<◌, ◌≤◌, List, [], ◌∷◌, ◌++◌, length, take, sym, ap, ◌∙◌, subst, arith, ◌↔◌}
use Rattle.std.specs.List.{AllByRecursion as All}
use Rattle.std.proofs.lemmas.List.{length_push, take_all}
use Rattle.admission.specs.declared.instruction.Instruction.{Instruction}
use Rattle.runs.specs.declared.valuations.Changes.{Changes}
use Rattle.runs.specs.Valuations.{MayChange}
use Rattle.constraints.specs.Schedules.{cycles}
use Rattle.constraints.proofs.Reordering.{stands_inside}
use Rattle.flight.specs.declared.issued.InFlight.{InFlight}
use Rattle.flight.specs.Issues.{positions, kept, SomeFrees}
use Rattle.flight.specs.Kept.{FlightOf}
use Rattle.flight.proofs.Entries.{all_from_at}
use Rattle.flight.proofs.Flying.{flight_sound}
use Rattle.flight.proofs.Growing.{cycles_push, frees_may}
use Rattle.flight.proofs.Keeping.{Narrow, kept_on, few_kept}
use Rattle.flight.proofs.Stepping.{Masks, issues}

module _ (past : List (List Instruction)) (xs : List Instruction) (es : List InFlight) (flight : FlightOf (past ++ xs ∷ []) (cycles past) es) where
  -- no entry is of a later packet
  pub none_later : All (λ e. e.issued.place.packet ≤ length past) es
  none_later =
      all_from_at (λ e. e.issued.place.packet ≤ length past) es
      (λ a e h. let st = (flight_sound (past ++ xs ∷ []) (cycles past) es flight a e h).0 in
      omega (arith, stands_inside (past ++ xs ∷ []) e.issued.place.packet e.issued.place.slot e.issued.instruction st, length_push past xs))

  -- the registers that they free are those that may change
  pub masks_of : (m : Changes) (low high : ℕ) → low ≡ cycles past → high ≡ cycles (past ++ xs ∷ []) → ((i : ℕ) → i < 6 → MayChange m i ↔ SomeFrees low high i es) → Masks m past xs
  masks_of m low high el eh members i hi =
      let (there, back) = frees_may past xs es flight i in
      let (a, b) = members i hi in (
        λ h. there (subst (λ (n : ℕ). SomeFrees n (cycles (past ++ xs ∷ [])) i es) el (subst (λ (n : ℕ). SomeFrees low n i es) eh (a h))),
        λ m. b (subst (λ (n : ℕ). SomeFrees low n i es) (sym eh) (subst (λ (n : ℕ). SomeFrees n (cycles (past ++ xs ∷ [])) i es) (sym el) (back m))),
      )

  -- the flight one packet on
  pub flying_on : (next : ℕ) (list : List InFlight) → Narrow (past ++ xs ∷ []) → next ≡ cycles (past ++ xs ∷ []) → issues list ≡ take 40 (kept next (issues es))
      → FlightOf (past ++ xs ∷ []) (cycles (past ++ xs ∷ [])) list
  flying_on next list narrow e told =
      let ps = past ++ xs ∷ [] in
      let grown = cycles_push past xs in
      let c : 0 + cycles ps ≡ cycles ps = omega arith in
      let few : length (kept (cycles ps) (positions 0 0 ps)) ≤ 40 = subst (λ (m : ℕ). length (kept m (positions 0 0 ps)) ≤ 40) c (few_kept 0 0 ps narrow) in
      told ∙ ap (λ l. take 40 (kept next l)) flight ∙ ap (take 40) (kept_on (cycles past) next (positions 0 0 ps) (omega arith) ∙ ap (λ (m : ℕ). kept m (positions 0 0 ps)) e)
      ∙ take_all 40 (kept (cycles ps) (positions 0 0 ps)) few
