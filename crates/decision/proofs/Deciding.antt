-- Propositions with a test that computes: joined, searched for in lists and below bounds, and the least number that passes.
-- Assumes nothing.
use Rattle.std.proofs.Common.{◌≡◌, ℕ, zero, suc, ◌+◌, ◌<◌, ◌≤◌, Bool, true, false, cond, not, ◌&&◌, ◌||◌, eqb, ltb, leb, ◌⊎◌, List, [], ◌∷◌, Some, None, Decides, Option, sym, refl, ap, ◌∙◌, subst, inl, inr, ⊎_elim, arith}
use Rattle.std.proofs.lemmas.Bool.{false≢true, cases_lt, cases_eq, leb-true, le-leb, not-true, not_from_false, cond_both}
use Rattle.std.proofs.lemmas.Bool.Decides.{Decides-eqb, Decides-ltb, Decides-and, Decides-or, Decides-not, Decides-like, not_from_Decides}
use Rattle.std.specs.List.{slice_get}
use Rattle.admission.specs.Refusals.{Least}
use Rattle.constraints.proofs.Moving.{none_some, some_one}

-- a test that passes just if the proposition holds
pub record Test (P : Type 0) : Type 0 where
  pub passes : Bool
  pub decides : Decides passes P

abbrev pub like : {P Q : Type 0} → (P → Q) → (Q → P) → Test P → Test Q
like f g p = record { passes = p.passes; decides = Decides-like p.passes f g p.decides }

abbrev pub both : {P Q : Type 0} → Test P → Test Q → Test (P × Q)
both p q = record { passes = p.passes && q.passes; decides = Decides-and p.passes q.passes p.decides q.decides }

abbrev pub all_three : {P Q R : Type 0} → Test P → Test Q → Test R → Test (P × Q × R)
all_three p q r = like (λ (a, (b, c)). (a, b, c)) (λ (a, b, c). (a, (b, c))) (both p (both q r))

abbrev pub either : {P Q : Type 0} → Test P → Test Q → Test (P ⊎ Q)
either p q = record { passes = p.passes || q.passes; decides = Decides-or p.passes q.passes p.decides q.decides }

abbrev pub lacks : {P : Type 0} → Test P → Test (P → ⊥)
lacks p = record { passes = not p.passes; decides = Decides-not p.passes p.decides }

abbrev pub equal : (m n : ℕ) → Test (m ≡ n)
equal m n = record { passes = eqb m n; decides = Decides-eqb m n }

abbrev pub less : (m n : ℕ) → Test (m < n)
less m n = record { passes = ltb m n; decides = Decides-ltb m n }

abbrev pub at_most : (m n : ℕ) → Test (m ≤ n)
at_most m n = record { passes = leb m n; decides = (leb-true m n, le-leb m n) }

abbrev pub is_true : (b : Bool) → Test (b ≡ true)
is_true b = record { passes = b; decides = (λ e. e, λ e. e) }

abbrev pub is_false : (b : Bool) → Test (b ≡ false)
is_false b = record { passes = not b; decides = (not-true b, not_from_false b) }

abbrev pub never : {P : Type 0} → (P → ⊥) → Test P
never f = record { passes = false; decides = (λ e. absurd (false≢true e), λ p. absurd (f p)) }

abbrev pub always : {P : Type 0} → P → Test P
always p = record { passes = true; decides = (λ e. p, λ p. refl) }

-- values told apart by numbers
abbrev pub coded : {X : Type 0} (code : X → ℕ) (back : ℕ → X) → ((x : X) → back (code x) ≡ x) → (a b : X) → Test (a ≡ b)
coded code back law a b = like (λ e. sym (law a) ∙ ap back e ∙ law b) (λ e. ap code e) (equal (code a) (code b))

abbrev pub optional : {X : Type 0} → ((x y : X) → Test (x ≡ y)) → (a b : Option X) → Test (a ≡ b)
optional f None None = always refl
optional f None (Some y) = never (λ e. none_some y e)
optional f (Some x) None = never (λ e. none_some x (sym e))
optional f (Some x) (Some y) = like (λ e. ap Some e) (λ e. some_one x y e) (f x y)

-- of what stands in an option
abbrev pub given : {X : Type 0} (P : X → Type 0) → ((x : X) → Test (P x)) → (o : Option X) → Test ((x : X) × (o ≡ Some x) × P x)
given P f None = never (λ (x, e, p). none_some x e)
given P f (Some y) = like (λ p. (y, refl, p)) (λ (x, e, p). subst P (sym (some_one y x e)) p) (f y)

-- of some element of a list, with its place
abbrev pub Somewhere : {X : Type 0} → (ℕ → X → Type 0) → List X → Type 0
Somewhere {X} P xs = (k : ℕ) × (x : X) × (slice_get xs k ≡ Some x) × P k x

pub head_or_later : {X : Type 0} (P : ℕ → X → Type 0) (y : X) (ys : List X) (k : ℕ) (x : X) → slice_get (y ∷ ys) k ≡ Some x → P k x → P 0 y ⊎ Somewhere (λ j. P (suc j)) ys
head_or_later P y ys zero x e p = inl (subst (P 0) (sym (some_one y x e)) p)
head_or_later P y ys (suc k) x e p = inr (k, x, e, p)

abbrev pub some : {X : Type 0} (P : ℕ → X → Type 0) → ((k : ℕ) (x : X) → Test (P k x)) → (xs : List X) → Test (Somewhere P xs)
some P f [] = never (λ (k, x, e, p). none_some x e)
some P f (y ∷ ys) =
    like (⊎_elim (λ p. (0, y, refl, p)) (λ (k, x, e, p). (suc k, x, e, p))) (λ (k, x, e, p). head_or_later P y ys k x e p)
    (either (f 0 y) (some (λ k. P (suc k)) (λ k. f (suc k)) ys))

-- of some number below a bound
abbrev pub Below : (ℕ → Type 0) → ℕ → Type 0
Below P n = (k : ℕ) × (k < n) × P k

pub last_or_before : (P : ℕ → Type 0) (n k : ℕ) → k < suc n → P k → P n ⊎ Below P n
last_or_before P n k h p = ⊎_elim (λ e. inl (subst P e p)) (λ apart. inr (k, omega arith, p)) (cases_eq k n)

abbrev pub below : (P : ℕ → Type 0) → ((k : ℕ) → Test (P k)) → (n : ℕ) → Test (Below P n)
below P f zero = never (λ (k, h, p). omega arith)
below P f (suc n) =
    like (⊎_elim (λ p. (n, omega arith, p)) (λ (k, h, p). (k, omega arith, p))) (λ (k, h, p). last_or_before P n k h p) (either (f n) (below P f n))

-- the first number that passes, of d numbers from n on; else the one behind them
abbrev pub scan : (ℕ → Bool) → ℕ → ℕ → ℕ
scan f n zero = n
scan f n (suc d) = cond (f n) n (scan f (suc n) d)

pub record Scanned (P : ℕ → Type 0) (low high m : ℕ) : Type 0 where
  pub reached : low ≤ m
  pub free : (k : ℕ) → low ≤ k → k < m → P k → ⊥
  pub found : m < high → P m

module _ (P : ℕ → Type 0) (f : (k : ℕ) → Test (P k)) where
  pub scanned : (low d : ℕ) → Scanned P low (low + d) (scan (λ k. (f k).passes) low d)
  scanned low zero = record { reached = omega arith; free = λ k a b p. omega arith; found = λ h. absurd (omega arith) }
  scanned low (suc d) =
      cond_both (f low).passes low (scan (λ k. (f k).passes) (suc low) d) (λ m. Scanned P low (low + suc d) m)
      (λ e. record { reached = omega arith; free = λ k a b p. omega arith; found = λ h. (f low).decides.0 e })
      (λ e. let r = scanned (suc low) d in
      record {
        reached = omega (arith, r.reached);
        free = λ k a b p. ⊎_elim (λ same. not_from_Decides (f low).passes (f low).decides e (subst P same p)) (λ apart. r.free k (omega arith) b p) (cases_eq k low);
        found = λ h. r.found (omega arith);
      })

  -- what was found is the least, if none is lower
  pub scan_least : (low d : ℕ) → ((k : ℕ) → P k → low ≤ k) → scan (λ k. (f k).passes) low d < low + d → Least P (scan (λ k. (f k).passes) low d)
  scan_least low d above h =
      let r = scanned low d in (r.found h, λ k lt p. r.free k (above k p) lt p)

  -- where nothing was found there is none
  pub scan_none : (low d : ℕ) → low + d ≤ scan (λ k. (f k).passes) low d → ((k : ℕ) → P k → (low ≤ k) × (k < low + d)) → (k : ℕ) → P k → ⊥
  scan_none low d h inside k p = let r = scanned low d in let i = inside k p in r.free k i.0 (omega (arith, i.1)) p

  -- where there is one it is found
  pub scan_some : (low d k : ℕ) → low ≤ k → k < low + d → P k → scan (λ k. (f k).passes) low d ≤ k
  scan_some low d k a b p = let r = scanned low d in ⊎_elim (λ lt. absurd (r.free k a lt p)) (λ le. le) (cases_lt k (scan (λ k. (f k).passes) low d))
