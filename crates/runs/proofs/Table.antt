-- A test that antt computes at every number below a bound, or at every pair of numbers, and what it shows of each.
-- Assumes nothing.
use Rattle.std.proofs.Common.{ℕ, zero, suc, ◌<◌, Bool, true, false, ◌&&◌, T, sym, subst, ⊎_elim, arith}
use Rattle.std.proofs.lemmas.Bool.{cases_eq}

abbrev pub below : (ℕ → Bool) → ℕ → Bool
below f zero = true
below f (suc n) = f n && below f n

left : (a b : Bool) → T (a && b) → T a
left true b t = tt
left false b t = t

right : (a b : Bool) → T (a && b) → T b
right true b t = t
right false b t = absurd t

pub at : (f : ℕ → Bool) (n : ℕ) → T (below f n) → (k : ℕ) → k < n → T (f k)
at f zero t k h = absurd (omega arith)
at f (suc n) t k h =
    ⊎_elim (λ e. subst (λ (m : ℕ). T (f m)) (sym e) (left (f n) (below f n) t))
    (λ apart. at f n (right (f n) (below f n) t) k (omega arith)) (cases_eq k n)

abbrev pub below2 : (ℕ → ℕ → Bool) → ℕ → ℕ → Bool
below2 f m n = below (λ i. below (f i) n) m

pub at2 : (f : ℕ → ℕ → Bool) (m n : ℕ) → T (below2 f m n) → (i v : ℕ) → i < m → v < n → T (f i v)
at2 f m n t i v hi hv = at (f i) n (at (λ j. below (f j) n) m t i hi) v hv

abbrev pub below3 : (ℕ → ℕ → ℕ → Bool) → ℕ → ℕ → ℕ → Bool
below3 f l m n = below (λ i. below2 (f i) m n) l

pub at3 : (f : ℕ → ℕ → ℕ → Bool) (l m n : ℕ) → T (below3 f l m n) → (i j k : ℕ) → i < l → j < m → k < n → T (f i j k)
at3 f l m n t i j k hi hj hk = at2 (f i) m n (at (λ x. below2 (f x) m n) l t i hi) j k hj hk
