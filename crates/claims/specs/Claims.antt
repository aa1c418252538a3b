-- Claims of any kind, and the first two that clash.
use Rattle.std.specs.Prelude.{ℕ, ◌<◌, ◌≤◌, List, length, slice_index_or}

-- the claims at two places clash
abbrev pub ClashAt : {C : Type 0} → (C → C → Type 0) → List C → ℕ → ℕ → Type 0
ClashAt {C} clash cs a b = (d : C) → clash (slice_index_or cs a d) (slice_index_or cs b d)

-- no claim before place n clashes with the one at b
abbrev pub FreeBefore : {C : Type 0} → (C → C → Type 0) → List C → ℕ → ℕ → Type 0
FreeBefore clash cs b n = (a : ℕ) → a < n → ClashAt clash cs a b → ⊥

-- from one place to just before another, no claim clashes with an earlier one
abbrev pub FreeFrom : {C : Type 0} → (C → C → Type 0) → List C → ℕ → ℕ → Type 0
FreeFrom clash cs low n = (b : ℕ) → low ≤ b → b < n → FreeBefore clash cs b b

-- the claim at `later` is the first from a place on that clashes with an earlier one, and that at `earlier` is the first it clashes with
pub record FirstClash {C : Type 0} (clash : C → C → Type 0) (cs : List C) (low earlier later : ℕ) : Type 0 where
  pub reached : low ≤ later
  pub inside : later < length cs
  pub ordered : earlier < later
  pub clashing : ClashAt clash cs earlier later
  pub least : FreeFrom clash cs low later
  pub first : FreeBefore clash cs later earlier
