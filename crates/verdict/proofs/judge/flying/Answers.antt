use Rattle.std.proofs.Common.{◌≡◌, ℕ, List, length, arith}
use Rattle.std.proofs.lemmas.Result.{MatchResult-weaker}
use Rattle.isa.specs.declared.refusal.Refusal.TheVariants.{WritePort, DoubleWrite}
use Rattle.admission.specs.declared.instruction.Instruction.{Instruction}
use Rattle.runs.specs.declared.valuations.Valuations.{Valuations}
use Rattle.claims.specs.Claims.{FreeFrom}
use Rattle.claims.specs.Landings as landings
use Rattle.constraints.specs.declared.fault.Fault.{Fault}
use Rattle.constraints.specs.Schedules.{cycles}
use Rattle.flight.specs.declared.issued.InFlight.{InFlight}
use Rattle.flight.specs.Issues.{positions, kept}
use Rattle.flight.specs.Kept.{Joined}
use Rattle.verdict.specs.Search.{FirstFault}
use Rattle.verdict.specs.Parts.{Passes, FaultFrom}
use Rattle.verdict.proofs.Finding.{Lined}
use Rattle.verdict.proofs.Meanings.{lined_all, port_says, write_says}
use Rattle.verdict.proofs.Verdicts.{exit, passes_none, passes_more, keeps, fault_of}
use Rattle.verdict.proofs.judge.flying.Goals as goal

-- entries whose results meet at a write port, and entries that write one register
abbrev Ports : InFlight → InFlight → Type 0
Ports e g = landings.SamePort (landings.port_claim e.issued.instruction e.issued.issue) (landings.port_claim g.issued.instruction g.issued.issue)

abbrev Writes : InFlight → InFlight → Type 0
Writes e g =
    landings.DoubleWrite (record { landings = landings.landings e.issued.instruction e.issued.issue; performed = e.performed })
    (record { landings = landings.landings g.issued.instruction g.issued.issue; performed = g.performed })

module _ (lawful start : Valuations) (past : List (List Instruction)) (xs : List Instruction) (zs : List InFlight) (f : ℕ) (many : f ≡ length (kept (cycles past) (positions 0 0 past))) (joined : Joined lawful start past xs zs) where
  lined : Lined past xs zs f
  lined = lined_all past xs zs f many joined.flying

  passes_port : FreeFrom Ports zs f (length zs) → Passes lawful start past xs 18 19
  passes_port free =
      passes_more lawful start past xs 18 18 (passes_none lawful start past xs 18)
      (keeps lawful start past xs zs f lined WritePort (λ e. omega arith, λ e. omega arith) Ports (port_says lawful start past xs zs f lined joined) free)

  fault_port : (fault : Fault) → FirstFault Ports zs f WritePort fault → FaultFrom lawful start past xs 18 fault
  fault_port fault p =
      fault_of lawful start past xs zs f lined WritePort (λ e. omega arith, λ e. omega arith) Ports (port_says lawful start past xs zs f lined joined) 18 fault (omega arith) (passes_none lawful start past xs 18) p

  passes_write : Passes lawful start past xs 18 19 → FreeFrom Writes zs f (length zs) → Passes lawful start past xs 18 20
  passes_write before free =
      passes_more lawful start past xs 18 19 before
      (keeps lawful start past xs zs f lined DoubleWrite (λ e. omega arith, λ e. omega arith) Writes (write_says lawful start past xs zs f lined joined) free)

  fault_write : Passes lawful start past xs 18 19 → (fault : Fault) → FirstFault Writes zs f DoubleWrite fault → FaultFrom lawful start past xs 18 fault
  fault_write before fault p =
      fault_of lawful start past xs zs f lined DoubleWrite (λ e. omega arith, λ e. omega arith) Writes (write_says lawful start past xs zs f lined joined) 18 fault (omega arith) before p

pub returns-in_err-no_clash : goal.returns-in_err-no_clash
returns-in_err-no_clash c = record {
  cases = λ lawful start past xs many joined.
      let zs = c.args.entries.now in
      exit (λ _. Passes lawful start past xs 18 20) (FaultFrom lawful start past xs 18) c.from_residual.result c.in_err-no_clash.field-0.0 c.from_residual.ensures.1
      (fault_port lawful start past xs zs c.args.from many joined c.in_err-no_clash.field-0.0 c.in_err-no_clash.ensures.cases);
}

pub returns : goal.returns
returns c = record {
  cases = λ lawful start past xs many joined.
      let zs = c.args.entries.now in
      let before = passes_port lawful start past xs zs c.args.from many joined c.in_ok-no_clash.ensures.cases in
      MatchResult-weaker c.no_clash-2.result c.no_clash-2.ensures.cases (λ _ free. passes_write lawful start past xs zs c.args.from many joined before free)
      (λ f p. fault_write lawful start past xs zs c.args.from many joined before f p);
}
