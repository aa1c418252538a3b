-- The verdict on a packet: the fault it is refused with and its places, or when it issues, how long it takes and whether it stalls.
use Rattle.std.specs.Prelude.{◌≡◌, ℕ, ◌+◌, ◌<◌, ◌⊎◌, List, length, take, ◌↔◌, IsTrue, Result, MatchResult}
use Rattle.isa.specs.Refusals.{number}
use Rattle.admission.specs.declared.instruction.Instruction.{Instruction}
use Rattle.admission.specs.Refusals.{Least}
use Rattle.runs.specs.declared.valuations.Valuations.{Valuations}
use Rattle.hazards.specs.Lengths.{packet_length}
use Rattle.constraints.specs.declared.fault.Accepted.{Accepted}
use Rattle.constraints.specs.declared.fault.Fault.{Fault}
use Rattle.constraints.specs.Schedules.{cycles, Stalls}
use Rattle.constraints.specs.Constraints.{ClashAt, Breaks}

-- a place comes before another: by packet, and then by slot
abbrev pub Before : ℕ → ℕ → ℕ → ℕ → Type 0
Before k s l t = (k < l) ⊎ ((k ≡ l) × (s < t))

-- slot t is the least whose instructions up to it break constraint n
abbrev pub Later : Valuations → Valuations → List (List Instruction) → List Instruction → ℕ → ℕ → Type 0
Later lawful start past xs n t = (t < length xs) × Least (λ m. Breaks lawful start past (take (m + 1) xs) n) t

-- the instruction in slot s of packet k is the first, by packet and then slot, that clashes with the one in slot t
abbrev pub FirstWith : Valuations → Valuations → List (List Instruction) → List Instruction → ℕ → ℕ → ℕ → ℕ → Type 0
FirstWith lawful start past xs n t k s = ClashAt lawful start past xs n k s t × ((l r : ℕ) → Before l r k s → ClashAt lawful start past xs n l r t → ⊥)

-- the earlier place of a fault: the first that clashes with the later one; where a count is too high, 16 and 17, the later one again
abbrev pub Earlier : Valuations → Valuations → List (List Instruction) → List Instruction → ℕ → ℕ → ℕ → ℕ → Type 0
Earlier lawful start past xs n t k s = FirstWith lawful start past xs n t k s ⊎ (((n ≡ 16) ⊎ (n ≡ 17)) × (k ≡ length past) × (s ≡ t))

-- the packet is refused with that fault: the least number that it breaks, and its two places
pub record RefusedWith (lawful start : Valuations) (past : List (List Instruction)) (xs : List Instruction) (f : Fault) : Type 0 where
  pub least : Least (Breaks lawful start past xs) (number f.refusal)
  pub packet : f.later.packet ≡ length past
  pub later : Later lawful start past xs (number f.refusal) f.later.slot
  pub earlier : Earlier lawful start past xs (number f.refusal) f.later.slot f.earlier.packet f.earlier.slot

-- the packet is accepted: it breaks no constraint, and issues, lasts and stalls as told
pub record AcceptedAs (lawful start : Valuations) (past : List (List Instruction)) (xs : List Instruction) (a : Accepted) : Type 0 where
  pub sound : (n : ℕ) → Breaks lawful start past xs n → ⊥
  pub issue : a.issue ≡ cycles past
  pub lasts : a.length ≡ packet_length xs
  pub stall : IsTrue a.stall ↔ Stalls past xs

-- the verdict on the packet xs behind past
abbrev pub Judged : Valuations → Valuations → List (List Instruction) → List Instruction → Result Accepted Fault → Type 0
Judged lawful start past xs r = MatchResult r (AcceptedAs lawful start past xs) (RefusedWith lawful start past xs)
