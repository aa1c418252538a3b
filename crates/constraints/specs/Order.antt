-- The order of slots: what does not depend on it.
use Rattle.std.specs.Prelude.{◌≡◌, ℕ, List}
use Rattle.std.specs.List.Sorted.{IsPermutation}
use Rattle.std.specs.List.{AllZip}
use Rattle.admission.specs.declared.instruction.Instruction.{Instruction}
use Rattle.runs.specs.declared.valuations.Valuations.{Valuations}
use Rattle.hazards.specs.Lengths.{packet_length}
use Rattle.constraints.specs.Schedules.{cycles, Stalls}
use Rattle.constraints.specs.Constraints.{Breaks}

-- a packet and the packets accepted before it, each in another order of its slots, break the same constraints, stall alike, and take as many cycles
pub record SlotOrderFree : Type 0 where
  pub breaks : (lawful start : Valuations) (past past' : List (List Instruction)) (xs xs' : List Instruction) → AllZip IsPermutation past past' → IsPermutation xs xs' → (n : ℕ) → Breaks lawful start past xs n → Breaks lawful start past' xs' n
  pub stalls : (past past' : List (List Instruction)) (xs xs' : List Instruction) → AllZip IsPermutation past past' → IsPermutation xs xs' → Stalls past xs → Stalls past' xs'
  pub lasts : (xs xs' : List Instruction) → IsPermutation xs xs' → packet_length xs' ≡ packet_length xs
  pub issues : (past past' : List (List Instruction)) → AllZip IsPermutation past past' → cycles past' ≡ cycles past
