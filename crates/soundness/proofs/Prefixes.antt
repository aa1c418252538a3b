-- The first packets of a schedule: they issue, stand and land as in the whole. Assumes nothing.
use Rattle.std.proofs.Common.{◌≡◌, ℕ, zero, suc, ◌+◌, ◌<◌, ◌≤◌, List, [], ◌∷◌, take, refl, ap, ◌∙◌, ⊎_elim, arith}
use Rattle.std.proofs.lemmas.List.{take-take}
use Rattle.std.proofs.lemmas.List.Sums.{sum_by-take-le}
use Rattle.std.proofs.lemmas.Bool.{cases_lt}
use Rattle.std.specs.List.{slice_get}
use Rattle.admission.specs.declared.instruction.Instruction.{Instruction}
use Rattle.admission.specs.declared.instruction.Write.{Write}
use Rattle.runs.specs.declared.valuations.Valuations.{Valuations}
use Rattle.runs.specs.Runs.{Run}
use Rattle.hazards.specs.Lengths.{packet_length}
use Rattle.constraints.specs.Schedules.{cycles, issue, Stands, Lands, May}

pub at_take : {X : Type 0} (m : ℕ) (xs : List X) (k : ℕ) → k < m → slice_get (take m xs) k ≡ slice_get xs k
at_take zero xs k h = absurd (omega arith)
at_take (suc m) [] k h = refl
at_take (suc m) (x ∷ xs) zero h = refl
at_take (suc m) (x ∷ xs) (suc k) h = at_take m xs k (omega arith)

module _ (ps : List (List Instruction)) (l : ℕ) where
  pub issue_take : (k : ℕ) → k ≤ l → issue (take l ps) k ≡ issue ps k
  issue_take k h = ap cycles (take-take k l ps h)

  issue_later : (k : ℕ) → l ≤ k → issue ps l ≤ issue ps k
  issue_later k h = let e = ap cycles (take-take l k ps h) in omega (arith, sum_by-take-le packet_length (take k ps) l)

  pub stands_take : (k s : ℕ) (x : Instruction) → k < l → Stands ps k s x → Stands (take l ps) k s x
  stands_take k s x h (p, at_p, at_x) = (p, at_take l ps k h ∙ at_p, at_x)

  -- what lands before packet l issues comes from the packets before it
  lands_take : (c : ℕ) (w : Write) → c < issue ps l → Lands ps c w → Lands (take l ps) c w
  lands_take c w h (k, s, x, st, wr, e) =
      ⊎_elim (λ lt. let same = issue_take k (omega arith) in (k, s, x, stands_take k s x lt st, wr, omega arith)) (λ le. absurd (omega (arith, issue_later k le))) (cases_lt k l)

  may_take : (k i : ℕ) → k < l → May ps k i → May (take l ps) k i
  may_take k i h (c, w, lands, low, high, t) =
      let a = issue_take k (omega arith) in
      let b = issue_take (k + 1) (omega arith) in
      let m : issue ps (k + 1) ≤ issue ps l = let e = ap cycles (take-take (k + 1) l ps (omega arith)) in omega (arith, sum_by-take-le packet_length (take l ps) (k + 1)) in
      (c, w, lands_take c w (omega arith) lands, omega arith, omega arith, t)

  -- a run of the schedule is one of its first packets and the one behind them
  pub run_take : (lawful start : Valuations) (n : ℕ) (run : ℕ → ℕ) → l ≤ n → Run lawful start (May ps) n run → Run lawful start (May (take l ps)) l run
  run_take lawful start n run le r = record {
    begins = r.begins;
    each = λ k h. r.each k (omega arith);
    next = λ k i hk hi d. may_take k i hk (r.next k i (omega arith) hi d);
  }
