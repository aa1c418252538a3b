-- Faults of a packet as a whole, and the first slot that completes one.
use Rattle.std.specs.Prelude.{ℕ, ◌+◌, ◌<◌, List, length, take}
use Rattle.admission.specs.declared.instruction.Instruction.{Instruction}

-- a slot is the first whose instructions up to it have the fault
pub record FirstSlot (Fault : List Instruction → Type 0) (xs : List Instruction) (k : ℕ) : Type 0 where
  pub inside : k < length xs
  pub broken : Fault (take (k + 1) xs)
  pub least : (m : ℕ) → m < k → Fault (take (m + 1) xs) → ⊥
