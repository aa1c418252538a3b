use Rattle.std.proofs.Common.{◌≡◌, ℕ, List, length, refl, subst, inl, inr, arith}
use Rattle.std.proofs.lemmas.Result.{MatchResult-weaker}
use Rattle.isa.specs.declared.refusal.Refusal.TheVariants.{CrossPathCount, ReadCount}
use Rattle.admission.specs.declared.instruction.Instruction.{Instruction}
use Rattle.runs.specs.declared.valuations.Valuations.{Valuations}
use Rattle.hazards.specs.Counts.{CrossExcess, ReadExcess}
use Rattle.constraints.specs.declared.fault.Fault.{Fault}
use Rattle.verdict.specs.Search.{SlotFault}
use Rattle.verdict.specs.Parts.{Passes, FaultFrom}
use Rattle.verdict.proofs.Verdicts.{exit, passes_none, passes_more, breaks_cross, breaks_reads, count_fault, cross_whole, reads_whole}
use Rattle.verdict.proofs.judge.counted.Goals as goal

module _ (lawful start : Valuations) (past : List (List Instruction)) (xs : List Instruction) (packets : ℕ) (many : packets ≡ length past) where
  passes_cross : (CrossExcess xs → ⊥) → Passes lawful start past xs 16 17
  passes_cross free = passes_more lawful start past xs 16 16 (passes_none lawful start past xs 16) (λ b. free (breaks_cross lawful start past xs b))

  passes_reads : (CrossExcess xs → ⊥) → (ReadExcess xs → ⊥) → Passes lawful start past xs 16 18
  passes_reads cross free = passes_more lawful start past xs 16 17 (passes_cross cross) (λ b. free (breaks_reads lawful start past xs b))

  fault_cross : (f : Fault) → SlotFault CrossExcess xs packets CrossPathCount f → FaultFrom lawful start past xs 16 f
  fault_cross f p =
      count_fault lawful start past xs CrossExcess CrossPathCount (inl refl) (λ ys e. inr (inl (refl, e))) (breaks_cross lawful start past) (cross_whole xs _ p.slot.broken) 16 f (omega arith)
      (passes_none lawful start past xs 16) (subst (λ (n : ℕ). SlotFault CrossExcess xs n CrossPathCount f) many p)

  fault_reads : (CrossExcess xs → ⊥) → (f : Fault) → SlotFault ReadExcess xs packets ReadCount f → FaultFrom lawful start past xs 16 f
  fault_reads cross f p =
      count_fault lawful start past xs ReadExcess ReadCount (inr refl) (λ ys e. inr (inr (refl, e))) (breaks_reads lawful start past) (reads_whole xs _ p.slot.broken) 16 f (omega arith)
      (passes_cross cross) (subst (λ (n : ℕ). SlotFault ReadExcess xs n ReadCount f) many p)

pub returns-in_err-no_excess : goal.returns-in_err-no_excess
returns-in_err-no_excess c = record {
  cases = λ lawful start past many.
      let xs = c.args.packet.now in
      exit (λ _. Passes lawful start past xs 16 18) (FaultFrom lawful start past xs 16) c.from_residual.result c.in_err-no_excess.field-0.0 c.from_residual.ensures.1
      (fault_cross lawful start past xs c.args.packets many c.in_err-no_excess.field-0.0 c.in_err-no_excess.ensures.cases);
}

pub returns : goal.returns
returns c = record {
  cases = λ lawful start past many.
      let xs = c.args.packet.now in
      let cross = c.in_ok-no_excess.ensures.cases in
      MatchResult-weaker c.no_excess-2.result c.no_excess-2.ensures.cases (λ _ free. passes_reads lawful start past xs c.args.packets many cross free)
      (λ f p. fault_reads lawful start past xs c.args.packets many cross f p);
}
