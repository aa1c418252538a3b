-- What `map` makes of an array, where the closure computes a function and stays as it is. Assumes nothing.
use Rattle.std.proofs.Common.{◌≡◌, ℕ, zero, suc, ◌+◌, ◌<◌, List, length, get_or, map, sym, ap, ◌∙◌, subst, arith}
use Rattle.std.proofs.lemmas.List.{get_or-map, length-map, ext_get_or}
use Rattle.std.specs.Array.{IsMapOf, MapsFrom}
use Rattle.std.specs.Fn.{Mut, Called}

module _ {F A B : Type 0} (g : Mut F (A × Unit {0}) B) (f : F) (w : A → B) (told : (q : F) (x : A) (y : B) → Called g f (x, tt) y q → (q ≡ f) × (y ≡ w x)) (xs : List A) (ys : List B) where
  mapped_at : (i n : ℕ) → MapsFrom g f xs ys i n → (k : ℕ) → k < n → (d : A) (e : B) → get_or ys (i + k) e ≡ w (get_or xs (i + k) d)
  mapped_at i zero m k h d e = absurd (omega arith)
  mapped_at i (suc n) (q, x, y, at_x, at_y, called, rest) zero h d e =
      let (same, gives) = told q x y called in
      subst (λ j. get_or ys j e ≡ w (get_or xs j d)) (omega arith) (at_y.1 e ∙ gives ∙ ap w (sym (at_x.1 d)))
  mapped_at i (suc n) (q, x, y, at_x, at_y, called, rest) (suc k) h d e =
      let (same, gives) = told q x y called in
      subst (λ j. get_or ys j e ≡ w (get_or xs j d)) (omega arith) (mapped_at (i + 1) n (subst (λ p. MapsFrom g p xs ys (i + 1) n) same rest) k (omega arith) d e)

  pub map_of : (n : ℕ) (d : A) (e : B) → length xs ≡ n → IsMapOf g f xs ys n → ys ≡ map w xs
  map_of n d e h made =
      ext_get_or e ys (map w xs) (made.long ∙ sym h ∙ sym (length-map xs w))
      (λ i hi. subst (λ j. get_or ys j e ≡ w (get_or xs j d)) (omega arith) (mapped_at 0 n made.each i (subst (λ m. i < m) made.long hi) d e)
      ∙ sym (get_or-map w xs i d e (subst (λ m. i < m) (made.long ∙ sym h) hi)))
