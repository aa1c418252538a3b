use Rattle.std.proofs.Common.{◌≡◌, ◌+◌, ◌<◌, ◌≤◌, List, length, refl, inl, inr, arith}
use Rattle.std.proofs.lemmas.Result.{MatchResult-weaker}
use Rattle.isa.specs.declared.refusal.Refusal.{Refusal}
use Rattle.isa.specs.declared.refusal.Refusal.TheVariants.{UnitTwice, TwoLongNops, DataPathTwice, NonalignedAccess, CrossPathOperands}
use Rattle.isa.specs.Refusals.{number}
use Rattle.admission.specs.declared.instruction.Instruction.{Instruction}
use Rattle.runs.specs.declared.valuations.Valuations.{Valuations}
use Rattle.claims.specs.Claims.{FreeFrom}
use Rattle.claims.specs.Kinds as kinds
use Rattle.claims.specs.Mutual.{same_unit_mutual, two_long_nops_mutual, same_data_path_mutual, nonaligned_pair_mutual, cross_operands_mutual}
use Rattle.constraints.specs.declared.fault.Fault.{Fault}
use Rattle.constraints.specs.Schedules.{cycles}
use Rattle.constraints.specs.Constraints.{Beside}
use Rattle.flight.specs.declared.issued.InFlight.{InFlight}
use Rattle.flight.specs.Issues.{slots}
use Rattle.flight.proofs.Stepping.{issues}
use Rattle.verdict.specs.Search.{FirstFault}
use Rattle.verdict.specs.Parts.{Passes, FaultFrom}
use Rattle.verdict.proofs.Finding.{Lined, Says}
use Rattle.verdict.proofs.Meanings.{lined_own, beside_says, beside_unit, beside_nop, beside_path, beside_aligned, beside_cross}
use Rattle.verdict.proofs.Verdicts.{exit, passes_none, passes_more, keeps, fault_of}
use Rattle.verdict.proofs.judge.beside.Goals as goal

-- entries whose instructions are related
abbrev Pair : (Instruction → Instruction → Type 0) → InFlight → InFlight → Type 0
Pair R e g = R e.issued.instruction g.issued.instruction

-- a constraint on two instructions of one packet: what it says of them
record Kind (refusal : Refusal) : Type 1 where
  least : 11 ≤ number refusal
  small : number refusal < 16
  Related : Instruction → Instruction → Type 0
  to : (x y : Instruction) → Beside (number refusal) x y → Related x y
  from : (x y : Instruction) → Related x y → Beside (number refusal) x y
  swap : (x y : Instruction) → Related x y → Related y x

abbrev units : Kind UnitTwice
units = record { least = omega arith; small = omega arith; Related = kinds.SameUnit; to = beside_unit; from = λ x y s. inl (refl, s); swap = same_unit_mutual }

abbrev nops : Kind TwoLongNops
nops = record { least = omega arith; small = omega arith; Related = kinds.TwoLongNops; to = beside_nop; from = λ x y s. inr (inl (refl, s)); swap = two_long_nops_mutual }

abbrev paths : Kind DataPathTwice
paths = record { least = omega arith; small = omega arith; Related = kinds.SameDataPath; to = beside_path; from = λ x y s. inr (inr (inl (refl, s))); swap = same_data_path_mutual }

abbrev alignments : Kind NonalignedAccess
alignments = record { least = omega arith; small = omega arith; Related = kinds.NonalignedPair; to = beside_aligned; from = λ x y s. inr (inr (inr (inl (refl, s)))); swap = nonaligned_pair_mutual }

abbrev operands : Kind CrossPathOperands
operands = record { least = omega arith; small = omega arith; Related = kinds.CrossOperands; to = beside_cross; from = λ x y s. inr (inr (inr (inr (refl, s)))); swap = cross_operands_mutual }

module _ (lawful start : Valuations) (past : List (List Instruction)) (xs : List Instruction) (zs : List InFlight) (own : issues zs ≡ slots (length past) (cycles past) 0 xs) where
  -- no two entries are related
  abbrev Free : {refusal : Refusal} → Kind refusal → Type 0
  Free k = FreeFrom (Pair k.Related) zs 0 (length zs)

  module _ (refusal : Refusal) (k : Kind refusal) (before : Passes lawful start past xs 11 (number refusal)) where
    lined : Lined past xs zs 0
    lined = lined_own past xs zs own

    apart : (number refusal ≡ 16 → ⊥) × (number refusal ≡ 17 → ⊥)
    apart = let h = k.small in (λ e. omega arith, λ e. omega arith)

    says : Says lawful start past xs zs 0 (number refusal) (Pair k.Related)
    says = let h = k.small in beside_says lawful start past xs zs lined (number refusal) (omega arith) k.Related k.to k.from k.swap

    passes : Free k → Passes lawful start past xs 11 (number refusal + 1)
    passes free = passes_more lawful start past xs 11 (number refusal) before (keeps lawful start past xs zs 0 lined refusal apart (Pair k.Related) says free)

    fault : (f : Fault) → FirstFault (Pair k.Related) zs 0 refusal f → FaultFrom lawful start past xs 11 f
    fault f = fault_of lawful start past xs zs 0 lined refusal apart (Pair k.Related) says 11 f k.least before

  start_here : Passes lawful start past xs 11 11
  start_here = passes_none lawful start past xs 11

  after_units : Free units → Passes lawful start past xs 11 12
  after_units = passes UnitTwice units start_here

  after_nops : Free units → Free nops → Passes lawful start past xs 11 13
  after_nops u = passes TwoLongNops nops (after_units u)

  after_paths : Free units → Free nops → Free paths → Passes lawful start past xs 11 14
  after_paths u n = passes DataPathTwice paths (after_nops u n)

  after_alignments : Free units → Free nops → Free paths → Free alignments → Passes lawful start past xs 11 15
  after_alignments u n p = passes NonalignedAccess alignments (after_paths u n p)

pub returns-in_err-no_clash : goal.returns-in_err-no_clash
returns-in_err-no_clash c = record {
  cases = λ lawful start past xs own.
      let zs = c.args.own.now in
      exit (λ _. Passes lawful start past xs 11 16) (FaultFrom lawful start past xs 11) c.from_residual.result c.in_err-no_clash.field-0.0 c.from_residual.ensures.1
      (fault lawful start past xs zs own UnitTwice units (start_here lawful start past xs zs own) c.in_err-no_clash.field-0.0 c.in_err-no_clash.ensures.cases);
}

pub returns-in_err-no_clash-2 : goal.returns-in_err-no_clash-2
returns-in_err-no_clash-2 c = record {
  cases = λ lawful start past xs own.
      let zs = c.args.own.now in
      exit (λ _. Passes lawful start past xs 11 16) (FaultFrom lawful start past xs 11) c.from_residual-in_err-no_clash-2.result c.in_err-no_clash-2.field-0.0 c.from_residual-in_err-no_clash-2.ensures.1
      (fault lawful start past xs zs own TwoLongNops nops (after_units lawful start past xs zs own c.in_ok-no_clash.ensures.cases) c.in_err-no_clash-2.field-0.0 c.in_err-no_clash-2.ensures.cases);
}

pub returns-in_err-no_clash-3 : goal.returns-in_err-no_clash-3
returns-in_err-no_clash-3 c = record {
  cases = λ lawful start past xs own.
      let zs = c.args.own.now in
      exit (λ _. Passes lawful start past xs 11 16) (FaultFrom lawful start past xs 11) c.from_residual-in_err-no_clash-3.result c.in_err-no_clash-3.field-0.0 c.from_residual-in_err-no_clash-3.ensures.1
      (fault lawful start past xs zs own DataPathTwice paths (after_nops lawful start past xs zs own c.in_ok-no_clash.ensures.cases c.in_ok-no_clash-2.ensures.cases) c.in_err-no_clash-3.field-0.0 c.in_err-no_clash-3.ensures.cases);
}

pub returns-in_err-no_clash-4 : goal.returns-in_err-no_clash-4
returns-in_err-no_clash-4 c = record {
  cases = λ lawful start past xs own.
      let zs = c.args.own.now in
      exit (λ _. Passes lawful start past xs 11 16) (FaultFrom lawful start past xs 11) c.from_residual-in_err-no_clash-4.result c.in_err-no_clash-4.field-0.0 c.from_residual-in_err-no_clash-4.ensures.1
      (fault lawful start past xs zs own NonalignedAccess alignments (after_paths lawful start past xs zs own c.in_ok-no_clash.ensures.cases c.in_ok-no_clash-2.ensures.cases c.in_ok-no_clash-3.ensures.cases) c.in_err-no_clash-4.field-0.0 c.in_err-no_clash-4.ensures.cases);
}

pub returns : goal.returns
returns c = record {
  cases = λ lawful start past xs own.
      let zs = c.args.own.now in
      let before = after_alignments lawful start past xs zs own c.in_ok-no_clash.ensures.cases c.in_ok-no_clash-2.ensures.cases c.in_ok-no_clash-3.ensures.cases c.in_ok-no_clash-4.ensures.cases in
      MatchResult-weaker c.no_clash-5.result c.no_clash-5.ensures.cases (λ _ free. passes lawful start past xs zs own CrossPathOperands operands before free) (λ f p. fault lawful start past xs zs own CrossPathOperands operands before f p);
}
