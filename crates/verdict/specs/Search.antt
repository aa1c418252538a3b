-- The first clash among entries, and the first slot that completes a fault of the packet, as faults; and that claims fit in memory.
use Rattle.std.specs.Prelude.{◌≡◌, ℕ, List, Some}
use Rattle.std.specs.Borrow.{RattleType}
use Rattle.std.specs.Mem.{FitsInMemory}
use Rattle.std.specs.List.{slice_get}
use Rattle.isa.specs.declared.refusal.Refusal.{Refusal}
use Rattle.admission.specs.declared.instruction.Instruction.{Instruction}
use Rattle.bounded.specs.contracts.list.Bounded.{the_row}
use Rattle.claims.specs.Claims.{FirstClash}
use Rattle.hazards.specs.Faults.{FirstSlot}
use Rattle.constraints.specs.declared.fault.Fault.{Fault}
use Rattle.flight.specs.declared.issued.InFlight.{InFlight}

-- the fault has that refusal and the places of the first two entries, from a place of the list on, that clash
pub record FirstFault (clash : InFlight → InFlight → Type 0) (es : List InFlight) (low : ℕ) (refusal : Refusal) (f : Fault) : Type 0 where
  pub reason : f.refusal ≡ refusal
  pub first : ℕ
  pub second : ℕ
  pub clashing : FirstClash clash es low first second
  pub one : InFlight
  pub other : InFlight
  pub stands : slice_get es first ≡ Some one
  pub stands_later : slice_get es second ≡ Some other
  pub earlier : f.earlier ≡ one.issued.place
  pub later : f.later ≡ other.issued.place

-- the fault has that refusal and, as both its places, the first slot up to which the packet has the fault as a whole
pub record SlotFault (Excess : List Instruction → Type 0) (xs : List Instruction) (packets : ℕ) (refusal : Refusal) (f : Fault) : Type 0 where
  pub reason : f.refusal ≡ refusal
  pub packet : f.later.packet ≡ packets
  pub slot : FirstSlot Excess xs f.later.slot
  pub again : f.earlier ≡ f.later

-- a list of N claims fits in memory
abbrev pub ClaimsFitInMemory : (C N : RattleType) → Type 0
ClaimsFitInMemory C N = FitsInMemory (the_row C N)
