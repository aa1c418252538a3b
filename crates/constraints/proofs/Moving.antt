-- What stands at a place of a list. In a list in another order each place goes to a place of its own.
-- Assumes nothing.
use Rattle.std.proofs.Common.{◌≡◌, ℕ, zero, suc, ◌<◌, cond, eqb, ◌⊎◌, List, [], ◌∷◌, ◌++◌, length, get_or, take, Some, None, sym, refl, ap, ◌∙◌, subst, inl, inr, ⊎_elim, arith}
use Rattle.std.specs.List as holes
use Rattle.std.specs.List.Sorted.{IsPermutation}
use Rattle.std.specs.List.{swap, AllZip}
use Rattle.std.proofs.lemmas.List.Sorted.{IsPermutation-keeps, IsPermutation-sym}
use Rattle.std.proofs.lemmas.List.Edits.{swapped_from_swap, length-swap}
use Rattle.std.proofs.lemmas.Bool.{cases_eq, eq-eqb, ne_eqb, cond-true, cond-false}
use Rattle.std.specs.List.{slice_get}

pub some_one : {X : Type 0} (x y : X) → Some x ≡ Some y → x ≡ y
some_one x y e = cc

pub none_some : {X : Type 0} (x : X) → None ≡ Some x → ⊥
none_some x e = let z : ◌≡◌ {A = ℕ} 0 1 = cc in absurd (omega arith)

-- a place where something stands is inside the list
pub at_inside : {X : Type 0} (xs : List X) (k : ℕ) (x : X) → slice_get xs k ≡ Some x → k < length xs
at_inside [] k x e = absurd (none_some x e)
at_inside (y ∷ xs) zero x e = omega arith
at_inside (y ∷ xs) (suc k) x e = omega (arith, at_inside xs k x e)

-- what stands there, by `get_or`
pub at_get_or : {X : Type 0} (xs : List X) (k : ℕ) (x d : X) → slice_get xs k ≡ Some x → get_or xs k d ≡ x
at_get_or [] k x d e = absurd (none_some x e)
at_get_or (y ∷ xs) zero x d e = some_one y x e
at_get_or (y ∷ xs) (suc k) x d e = at_get_or xs k x d e

pub at_from_get_or : {X : Type 0} (xs : List X) (k : ℕ) (d : X) → k < length xs → slice_get xs k ≡ Some (get_or xs k d)
at_from_get_or [] k d h = absurd (omega arith)
at_from_get_or (y ∷ xs) zero d h = refl
at_from_get_or (y ∷ xs) (suc k) d h = at_from_get_or xs k d (omega arith)

pub at_some : {X : Type 0} (xs : List X) (k : ℕ) (x d : X) → k < length xs → get_or xs k d ≡ x → slice_get xs k ≡ Some x
at_some xs k x d h e = at_from_get_or xs k d h ∙ ap Some e

pub at_one : {X : Type 0} (xs : List X) (k : ℕ) (x y : X) → slice_get xs k ≡ Some x → slice_get xs k ≡ Some y → x ≡ y
at_one xs k x y e f = some_one x y (sym e ∙ f)

-- in a list put before another, and with one more at its end
pub at_append_left : {X : Type 0} (xs ys : List X) (k : ℕ) → k < length xs → slice_get (xs ++ ys) k ≡ slice_get xs k
at_append_left [] ys k h = absurd (omega arith)
at_append_left (x ∷ xs) ys zero h = refl
at_append_left (x ∷ xs) ys (suc k) h = at_append_left xs ys k (omega arith)

pub at_push : {X : Type 0} (xs : List X) (y : X) → slice_get (xs ++ y ∷ []) (length xs) ≡ Some y
at_push [] y = refl
at_push (x ∷ xs) y = at_push xs y

-- what stands there stood there before, or is the one more
pub at_push_cases : {X : Type 0} (xs : List X) (y : X) (k : ℕ) (x : X) → slice_get (xs ++ y ∷ []) k ≡ Some x → (slice_get xs k ≡ Some x) ⊎ ((k ≡ length xs) × (y ≡ x))
at_push_cases [] y zero x e = inr (refl, some_one y x e)
at_push_cases [] y (suc k) x e = absurd (none_some x e)
at_push_cases (z ∷ xs) y zero x e = inl e
at_push_cases (z ∷ xs) y (suc k) x e = ⊎_elim inl (λ h. inr (ap suc h.0, h.1)) (at_push_cases xs y k x e)

-- a list in another order: each place goes to a place of its own, where the same stands
pub record Moved {X : Type 0} (xs ys : List X) : Type 0 where
  pub to : ℕ → ℕ
  pub same : (k : ℕ) (x : X) → slice_get xs k ≡ Some x → slice_get ys (to k) ≡ Some x
  pub apart : (j k : ℕ) → (j ≡ k → ⊥) → to j ≡ to k → ⊥

-- a for b and b for a
abbrev turn : ℕ → ℕ → ℕ → ℕ
turn a b k = cond (eqb k a) b (cond (eqb k b) a k)

turn_at : (a b k : ℕ) (P : ℕ → Type 0) → (k ≡ a → P b) → (k ≡ b → P a) → ((k ≡ a → ⊥) → (k ≡ b → ⊥) → P k) → P (turn a b k)
turn_at a b k P first second other =
    ⊎_elim (λ e. subst P (sym (cond-true (eqb k a) b (cond (eqb k b) a k) (eq-eqb k a e))) (first e))
    (λ ne. subst P (sym (cond-false (eqb k a) b (cond (eqb k b) a k) (ne_eqb k a ne)))
    (⊎_elim (λ e. subst P (sym (cond-true (eqb k b) a k (eq-eqb k b e))) (second e))
    (λ nf. subst P (sym (cond-false (eqb k b) a k (ne_eqb k b nf))) (other ne nf)) (cases_eq k b))) (cases_eq k a)

turn_apart : (a b k l : ℕ) → (k ≡ l → ⊥) → turn a b k ≡ turn a b l → ⊥
turn_apart a b k l ne =
    turn_at a b k (λ x. x ≡ turn a b l → ⊥)
    (λ e. turn_at a b l (λ y. b ≡ y → ⊥) (λ f g. ne (e ∙ sym f)) (λ f g. ne (e ∙ sym g ∙ sym f)) (λ nf ng g. ng (sym g)))
    (λ e. turn_at a b l (λ y. a ≡ y → ⊥) (λ f g. ne (e ∙ sym g ∙ sym f)) (λ f g. ne (e ∙ sym f)) (λ nf ng g. nf (sym g)))
    (λ nf ng. turn_at a b l (λ y. k ≡ y → ⊥) (λ f g. ng g) (λ f g. nf g) (λ _ _ g. ne g))

same_exchange : {X : Type 0} (l : List X) (i j : ℕ) → swap l i j ≡ holes.swap l i j
same_exchange [] i j = refl
same_exchange (x ∷ l) i j = refl

exchange_at : {X : Type 0} (l : List X) (i j k : ℕ) (x : X) → i < length l → j < length l → slice_get l k ≡ Some x → slice_get (swap l i j) (turn i j k) ≡ Some x
exchange_at l i j k x hi hj e =
    let s = swapped_from_swap l (swap l i j) i j x hi hj (same_exchange l i j) in
    let g : length (swap l i j) ≡ length l = ap length (same_exchange l i j) ∙ length-swap l i j in
    let here : get_or l k x ≡ x = at_get_or l k x x e in
    turn_at i j k (λ n. slice_get (swap l i j) n ≡ Some x)
    (λ f. at_some (swap l i j) j x x (omega arith) (s.1 ∙ ap (λ (n : ℕ). get_or l n x) (sym f) ∙ here))
    (λ f. at_some (swap l i j) i x x (omega arith) (s.0 ∙ ap (λ (n : ℕ). get_or l n x) (sym f) ∙ here))
    (λ ne nf. at_some (swap l i j) k x x (omega (arith, at_inside l k x e)) (s.2 k ne nf ∙ here))

pub moved : {X : Type 0} (xs ys : List X) → IsPermutation xs ys → Moved xs ys
moved {X} xs ys = IsPermutation-keeps xs (λ l. Moved xs l) start step ys
  where
    start : Moved xs xs
    start = record { to = λ k. k; same = λ k x e. e; apart = λ j k ne e. ne e }

    step : (l : List X) (i j : ℕ) → i < length l → j < length l → Moved xs l → Moved xs (swap l i j)
    step l i j hi hj m = record {
      to = λ k. turn i j (m.to k);
      same = λ k x e. exchange_at l i j (m.to k) x hi hj (m.same k x e);
      apart = λ k n ne. turn_apart i j (m.to k) (m.to n) (m.apart k n ne);
    }

-- two lists, each of the one related to the same of the other: fronts, places, and back
pub each_take : {X : Type 0} (R : X → X → Type 0) (k : ℕ) (xs ys : List X) → AllZip R xs ys → AllZip R (take k xs) (take k ys)
each_take R zero xs ys e = tt
each_take R (suc k) [] [] e = tt
each_take R (suc k) [] (y ∷ ys) e = absurd e
each_take R (suc k) (x ∷ xs) [] e = absurd e
each_take R (suc k) (x ∷ xs) (y ∷ ys) e = (e.0, each_take R k xs ys e.1)

pub each_at : {X : Type 0} (R : X → X → Type 0) (xs ys : List X) (k : ℕ) (x : X) → AllZip R xs ys → slice_get xs k ≡ Some x → (y : X) × (slice_get ys k ≡ Some y) × R x y
each_at R [] ys k x e a = absurd (none_some x a)
each_at R (z ∷ xs) [] k x e a = absurd e
each_at R (z ∷ xs) (y ∷ ys) zero x e a = (y, refl, subst (λ v. R v y) (some_one z x a) e.0)
each_at R (z ∷ xs) (y ∷ ys) (suc k) x e a = each_at R xs ys k x e.1 a

pub each_back : {X : Type 0} (xs ys : List (List X)) → AllZip IsPermutation xs ys → AllZip IsPermutation ys xs
each_back [] [] e = tt
each_back [] (y ∷ ys) e = absurd e
each_back (x ∷ xs) [] e = absurd e
each_back (x ∷ xs) (y ∷ ys) e = (IsPermutation-sym x y e.0, each_back xs ys e.1)
