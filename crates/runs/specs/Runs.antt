-- Runs through the packets from the first to the last one judged.
-- What may change between two packets, and where a run may begin, are parameters.
use Rattle.std.specs.Prelude.{◌≡◌, ℕ, ◌+◌, ◌<◌, ◌≤◌, List, ◌≢◌, slice_index_or, ◌↔◌}
use Rattle.isa.specs.declared.condition.Condition.{Condition}
use Rattle.isa.specs.declared.condition.Condition.TheVariants.{Always}
use Rattle.isa.specs.Bits.{bit}
use Rattle.runs.specs.declared.valuations.Valuations.{Valuations}
use Rattle.runs.specs.declared.valuations.Changes.{Changes}
use Rattle.runs.specs.Valuations.{Meets, Has, MayChange, HoldsJust}

-- run gives each of the packets 0 to n a lawful valuation, the first from those at the start; from packet k to the next a condition register differs only if it may
pub record Run (lawful start : Valuations) (may : ℕ → ℕ → Type 0) (n : ℕ) (run : ℕ → ℕ) : Type 0 where
  pub begins : Has start (run 0)
  pub each : (k : ℕ) → k ≤ n → (run k < 64) × Has lawful (run k)
  pub next : (k i : ℕ) → k < n → i < 6 → (bit (run k) i ≢ bit (run (k + 1)) i) → may k i

-- some run performs a write of packet j under the condition c, and has v in packet n
abbrev pub Ends : Valuations → Valuations → (ℕ → ℕ → Type 0) → ℕ → ℕ → Condition → ℕ → Type 0
Ends lawful start may n j c v = (run : ℕ → ℕ) × Run lawful start may n run × Meets c (run j) × (run n ≡ v)

-- some run performs a write of packet j under c, and one of packet k under d
abbrev pub Both : Valuations → Valuations → (ℕ → ℕ → Type 0) → ℕ → ℕ → Condition → ℕ → Condition → Type 0
Both lawful start may n j c k d = (run : ℕ → ℕ) × Run lawful start may n run × Meets c (run j) × Meets d (run k)

-- the set holds just the valuations of packet n in the runs that perform a write of packet j under c
abbrev pub Carries : Valuations → Valuations → (ℕ → ℕ → Type 0) → ℕ → ℕ → Condition → Valuations → Type 0
Carries lawful start may n j c s = HoldsJust s (Ends lawful start may n j c)

-- the set holds just the valuations that runs can have in packet n
abbrev pub Reaches : Valuations → Valuations → (ℕ → ℕ → Type 0) → ℕ → Valuations → Type 0
Reaches lawful start may n s = Carries lawful start may n n Always s

-- no register may change
abbrev pub none : Changes
none = record { mask = 0 }

-- what may change from each packet to the next, from a list
abbrev pub MayOf : List Changes → ℕ → ℕ → Type 0
MayOf ms k i = MayChange (slice_index_or ms k none) i
