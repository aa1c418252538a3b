-- Valuations, conditions and sets of valuations.
-- A valuation is a number from 0 to 63; each of its bits tells whether a condition register is nonzero.
use Rattle.std.specs.Prelude.{◌≡◌, ℕ, ◌<◌, ◌↔◌, ◌⊎◌}
use Rattle.isa.specs.declared.condition.Condition.{Condition}
use Rattle.isa.specs.declared.condition.Condition.TheVariants.{Always, Nonzero, Zero}
use Rattle.isa.specs.declared.condition.ConditionRegister.{ConditionRegister}
use Rattle.isa.specs.declared.condition.ConditionRegister.TheVariants.{B0, B1, B2, A1, A2, A0}
use Rattle.isa.specs.Bits.{bit}
use Rattle.runs.specs.declared.valuations.Valuations.{Valuations}
use Rattle.runs.specs.declared.valuations.Changes.{Changes}

-- the bit of a condition register in a valuation
abbrev pub place : ConditionRegister → ℕ
place B0 = 0
place B1 = 1
place B2 = 2
place A1 = 3
place A2 = 4
place A0 = 5

-- the condition holds in the valuation
abbrev pub Meets : Condition → ℕ → Type 0
Meets Always v = Unit {0}
Meets (Nonzero r) v = bit v (place r) ≡ 1
Meets (Zero r) v = bit v (place r) ≡ 0

-- the valuation belongs to the set
abbrev pub Has : Valuations → ℕ → Type 0
Has s v = bit s.bits v ≡ 1

-- the condition register of place i may change
abbrev pub MayChange : Changes → ℕ → Type 0
MayChange m i = bit m.mask i ≡ 1

-- the registers that may change are just those whose places have the property
abbrev pub ChangesJust : Changes → (ℕ → Type 0) → Type 0
ChangesJust m P = (i : ℕ) → i < 6 → MayChange m i ↔ P i

-- the valuations of the set are just those that have the property
abbrev pub HoldsJust : Valuations → (ℕ → Type 0) → Type 0
HoldsJust s P = (v : ℕ) → v < 64 → Has s v ↔ P v

-- from v to w each register may change or stays as it is
abbrev pub Follows : Changes → ℕ → ℕ → Type 0
Follows m v w = (i : ℕ) → i < 6 → MayChange m i ⊎ (bit v i ≡ bit w i)

-- w may follow some valuation of the set
abbrev pub After : Valuations → Changes → ℕ → Type 0
After s m w = (v : ℕ) × (v < 64) × Has s v × Follows m v w
