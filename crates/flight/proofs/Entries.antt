-- What stands at the places of lists that are joined, cut or filtered. Assumes nothing.
use Rattle.std.proofs.Common.{◌≡◌, ℕ, zero, suc, ◌+◌, ◌<◌, Bool, true, false, cond, ◌⊎◌, List, [], ◌∷◌, ◌++◌, map, length, Some, filter, sym, refl, ap, ◌∙◌, subst, inl, inr, ⊎_elim, arith, ◌↔◌}
use Rattle.std.specs.List.{AllByRecursion as All}
use Rattle.std.specs.List.{HoldsAt, slice_get}
use Rattle.constraints.proofs.Moving.{none_some, some_one, at_inside, at_append_left}

-- some entry of a list has a property
abbrev pub Any : {X : Type 0} → (X → Type 0) → List X → Type 0
Any {X} P xs = (a : ℕ) × (x : X) × (slice_get xs a ≡ Some x) × P x

module _ {X : Type 0} where
  pub at_right : (xs ys : List X) (a : ℕ) → slice_get (xs ++ ys) (length xs + a) ≡ slice_get ys a
  at_right [] ys a = let e : 0 + a ≡ a = omega arith in ap (slice_get ys) e
  at_right (x ∷ xs) ys a =
      let e : suc (length xs) + a ≡ suc (length xs + a) = omega arith in ap (slice_get (x ∷ (xs ++ ys))) e ∙ at_right xs ys a

  pub any_none : (P : X → Type 0) → Any P [] → ⊥
  any_none P (a, x, e, p) = none_some x e

  pub any_cons : (P : X → Type 0) (x : X) (xs : List X) → Any P (x ∷ xs) → P x ⊎ Any P xs
  any_cons P x xs (zero, y, e, p) = inl (subst P (sym (some_one x y e)) p)
  any_cons P x xs (suc a, y, e, p) = inr (a, y, e, p)

  pub any_later : (P : X → Type 0) (x : X) (xs : List X) → Any P xs → Any P (x ∷ xs)
  any_later P x xs (a, y, e, p) = (suc a, y, e, p)

  pub any_append : (P : X → Type 0) (xs ys : List X) → Any P (xs ++ ys) → Any P xs ⊎ Any P ys
  any_append P [] ys h = inr h
  any_append P (x ∷ xs) ys h =
      ⊎_elim (λ p. inl (0, x, refl, p)) (λ q. ⊎_elim (λ l. inl (any_later P x xs l)) inr (any_append P xs ys q)) (any_cons P x (xs ++ ys) h)

  pub any_left : (P : X → Type 0) (xs ys : List X) → Any P xs → Any P (xs ++ ys)
  any_left P xs ys (a, x, e, p) = (a, x, at_append_left xs ys a (at_inside xs a x e) ∙ e, p)

  pub any_right : (P : X → Type 0) (xs ys : List X) → Any P ys → Any P (xs ++ ys)
  any_right P xs ys (a, x, e, p) = (length xs + a, x, at_right xs ys a ∙ e, p)

  -- one entry more
  pub any_push : (P : X → Type 0) (xs : List X) (x : X) → Any P (xs ++ x ∷ []) ↔ (Any P xs ⊎ P x)
  any_push P xs x = (
    λ h. ⊎_elim inl (λ q. ⊎_elim inr (λ n. absurd (any_none P n)) (any_cons P x [] q)) (any_append P xs (x ∷ []) h),
    ⊎_elim (any_left P xs (x ∷ [])) (λ p. any_right P xs (x ∷ []) (0, x, refl, p)),
  )

  -- what holds of all holds of some
  pub all_at : (P : X → Type 0) (xs : List X) (a : ℕ) (x : X) → All P xs → slice_get xs a ≡ Some x → P x
  all_at P [] a x h e = absurd (none_some x e)
  all_at P (y ∷ xs) zero x h e = subst P (some_one y x e) h.0
  all_at P (y ∷ xs) (suc a) x h e = all_at P xs a x h.1 e

  -- an entry that passes a test is kept, and what is kept passes
  kept_cons : (t : X → Bool) (P : X → Type 0) (x : X) (xs : List X) (b : Bool) → t x ≡ b
      → (Any P (filter t xs) ↔ Any (λ y. P y × (t y ≡ true)) xs) → Any P (cond b (x ∷ filter t xs) (filter t xs)) ↔ Any (λ y. P y × (t y ≡ true)) (x ∷ xs)
  kept_cons t P x xs true e (there, back) = (
    λ h. ⊎_elim (λ p. (0, x, refl, (p, e))) (λ q. any_later (λ y. P y × (t y ≡ true)) x xs (there q)) (any_cons P x (filter t xs) h),
    λ h. ⊎_elim (λ (p, q). (0, x, refl, p)) (λ q. any_later P x (filter t xs) (back q)) (any_cons (λ y. P y × (t y ≡ true)) x xs h),
  )
  kept_cons t P x xs false e (there, back) = (
    λ h. any_later (λ y. P y × (t y ≡ true)) x xs (there h),
    λ h. ⊎_elim (λ (p, q). let z : false ≡ true = sym e ∙ q in let n : ◌≡◌ {A = ℕ} 0 1 = cc in absurd (omega arith)) back (any_cons (λ y. P y × (t y ≡ true)) x xs h),
  )

  pub any_kept : (t : X → Bool) (P : X → Type 0) (xs : List X) → Any P (filter t xs) ↔ Any (λ y. P y × (t y ≡ true)) xs
  any_kept t P [] = (λ h. absurd (any_none P h), λ h. absurd (any_none (λ y. P y × (t y ≡ true)) h))
  any_kept t P (x ∷ xs) = kept_cons t P x xs (t x) refl (any_kept t P xs)

module _ {X Y : Type 0} (f : X → Y) where
  pub at_map : (xs : List X) (a : ℕ) (x : X) → slice_get xs a ≡ Some x → slice_get (map f xs) a ≡ Some (f x)
  at_map [] a x e = absurd (none_some x e)
  at_map (y ∷ xs) zero x e = ap (λ z. Some (f z)) (some_one y x e)
  at_map (y ∷ xs) (suc a) x e = at_map xs a x e

  pub at_mapped : (xs : List X) (a : ℕ) (y : Y) → slice_get (map f xs) a ≡ Some y → (x : X) × (slice_get xs a ≡ Some x) × (f x ≡ y)
  at_mapped [] a y e = absurd (none_some y e)
  at_mapped (x ∷ xs) zero y e = (x, refl, some_one (f x) y e)
  at_mapped (x ∷ xs) (suc a) y e = at_mapped xs a y e

  pub any_map : (P : Y → Type 0) (xs : List X) → Any P (map f xs) ↔ Any (λ x. P (f x)) xs
  any_map P xs = (
    λ (a, y, e, p). let (x, found, same) = at_mapped xs a y e in (a, x, found, subst P (sym same) p),
    λ (a, x, e, p). (a, f x, at_map xs a x e, p),
  )

-- what holds at each place holds of all
pub all_from_at : {X : Type 0} (P : X → Type 0) (xs : List X) → ((a : ℕ) (x : X) → slice_get xs a ≡ Some x → P x) → All P xs
all_from_at P [] f = tt
all_from_at P (x ∷ xs) f = (f 0 x refl, all_from_at P xs (λ a y e. f (suc a) y e))

-- what holds at a place inside holds of some
pub some_at : {X : Type 0} (P : X → Type 0) (xs : List X) (k : ℕ) → k < length xs → HoldsAt P xs k → Any P xs
some_at P [] k h holds = absurd (omega arith)
some_at P (x ∷ xs) zero h holds = (0, x, refl, holds x)
some_at P (x ∷ xs) (suc k) h holds = any_later P x xs (some_at P xs k (omega arith) holds)
