-- The verdict in parts: some of the constraints after the others.
use Rattle.std.specs.Prelude.{◌≡◌, ℕ, ◌<◌, ◌≤◌, List, length}
use Rattle.isa.specs.Refusals.{number}
use Rattle.admission.specs.declared.instruction.Instruction.{Instruction}
use Rattle.runs.specs.declared.valuations.Valuations.{Valuations}
use Rattle.constraints.specs.declared.fault.Fault.{Fault}
use Rattle.constraints.specs.Constraints.{Breaks}
use Rattle.constraints.specs.Faults.{Later, Earlier}

-- the packet xs behind past breaks no constraint from low to just before high
abbrev pub Passes : Valuations → Valuations → List (List Instruction) → List Instruction → ℕ → ℕ → Type 0
Passes lawful start past xs low high = (n : ℕ) → low ≤ n → n < high → Breaks lawful start past xs n → ⊥

-- the fault tells the least constraint, from low on, that the packet breaks, and its places
pub record FaultFrom (lawful start : Valuations) (past : List (List Instruction)) (xs : List Instruction) (low : ℕ) (f : Fault) : Type 0 where
  pub reached : low ≤ number f.refusal
  pub broken : Breaks lawful start past xs (number f.refusal)
  pub least : Passes lawful start past xs low (number f.refusal)
  pub packet : f.later.packet ≡ length past
  pub later : Later lawful start past xs (number f.refusal) f.later.slot
  pub earlier : Earlier lawful start past xs (number f.refusal) f.later.slot f.earlier.packet f.earlier.slot
