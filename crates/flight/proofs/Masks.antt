-- What more may change with one write more, and with one entry more. Assumes nothing.
use Rattle.std.proofs.Common.{ℕ, ◌+◌, ◌<◌, ◌⊎◌, List, length, get_or, take, sym, subst, inl, inr, ⊎_elim, arith, ◌↔◌}
use Rattle.std.proofs.lemmas.List.{take_more}
use Rattle.std.proofs.lemmas.Bool.{cases_eq}
use Rattle.flight.specs.declared.issued.InFlight.{InFlight}
use Rattle.flight.specs.Issues.{Frees, SomeFrees}
use Rattle.flight.proofs.Entries.{any_push}

module _ {M F R : Type 0} (joined : R ↔ (M ⊎ F)) where
  -- one place more
  pub place_more : (P : ℕ → Type 0) (k : ℕ) → M ↔ ((j : ℕ) × (j < k) × P j) → F ↔ P k → R ↔ ((j : ℕ) × (j < k + 1) × P j)
  place_more P k before here = (
    λ r. ⊎_elim (λ m. let (j, h, p) = before.0 m in (j, omega arith, p)) (λ f. (k, omega arith, here.0 f)) (joined.0 r),
    λ (j, h, p). joined.1 (⊎_elim (λ e. inr (here.1 (subst P e p))) (λ apart. inl (before.1 (j, omega arith, p))) (cases_eq j k)),
  )

  -- one entry more
  pub frees_more : (es : List InFlight) (n : ℕ) (d : InFlight) (low high i : ℕ) → n < length es
      → M ↔ SomeFrees low high i (take n es) → F ↔ Frees low high i (get_or es n d).issued → R ↔ SomeFrees low high i (take (n + 1) es)
  frees_more es n d low high i h before here =
      let push = any_push (λ e. Frees low high i e.issued) (take n es) (get_or es n d) in
      subst (λ (xs : List InFlight). R ↔ SomeFrees low high i xs) (sym (take_more es n d h)) (
        λ r. push.1 (⊎_elim (λ m. inl (before.0 m)) (λ f. inr (here.0 f)) (joined.0 r)),
        λ a. joined.1 (⊎_elim (λ m. inl (before.1 m)) (λ f. inr (here.1 f)) (push.0 a)),
      )
