-- The first slot, from what a search over all slots answers. Assumes nothing.
use Rattle.std.proofs.Common.{◌≡◌, ℕ, ◌+◌, ◌-◌, ◌<◌, ◌≤◌, List, [], ◌∷◌, length, take, Some, None, Option, MatchOption, sym, refl, subst, ⊎_elim, arith, take_all}
use Rattle.std.proofs.lemmas.Bool.{cases_eq}
use Rattle.admission.specs.declared.instruction.Instruction.{Instruction}
use Rattle.hazards.specs.Faults.{FirstSlot}

module _ (Fault : List Instruction → Type 0) (xs : List Instruction) (none : Fault [] → ⊥) where
  free_all : ((m : ℕ) → 0 ≤ m → m < length xs → Fault (take (m + 1) xs) → ⊥) → Fault xs → ⊥
  free_all free f =
      ⊎_elim (λ e. none (subst Fault (empty xs e) f))
      (λ some. free (length xs - 1) (omega arith) (omega arith) (subst Fault (sym (take_all (length xs - 1 + 1) xs (omega arith))) f)) (cases_eq (length xs) 0)
    where
      empty : (l : List Instruction) → length l ≡ 0 → l ≡ []
      empty [] e = refl
      empty (x ∷ l) e = absurd (omega arith)

  pub first_slot_of : (r : Option ℕ)
      → MatchOption r ((m : ℕ) → 0 ≤ m → m < length xs → Fault (take (m + 1) xs) → ⊥)
      (λ k. (0 ≤ k) × (k < length xs) × Fault (take (k + 1) xs) × ((m : ℕ) → 0 ≤ m → m < k → Fault (take (m + 1) xs) → ⊥))
      → MatchOption r (Fault xs → ⊥) (FirstSlot Fault xs)
  first_slot_of None free = free_all free
  first_slot_of (Some k) (low, inside, broken, least) = record { inside = inside; broken = broken; least = λ m h. least m (omega arith) h }
