-- One register after the other: what the loop of `expand` keeps, and each of its turns.
-- Assumes nothing.
use Rattle.std.proofs.Common.{◌≡◌, ℕ, zero, suc, [], ◌∷◌, get_or, ◌+◌, ◌-◌, ◌<◌, max, cond, eqb, ltb, ◌⊎◌, sym, refl, ap, ◌∙◌, subst, inl, inr, ⊎_elim, arith, eqb→eq, ltb→lt, ◌↔◌}
use Rattle.std.proofs.lemmas.Bool.{cases_eq, ne_eqb, eq-eqb, cond-true, cond-false}
use Rattle.isa.specs.Bits.{bit}
use Rattle.isa.specs.declared.condition.ConditionRegister.{ConditionRegister}
use Rattle.isa.specs.declared.condition.ConditionRegister.TheVariants.{B0, B1, B2, A1, A2, A0}
use Rattle.runs.specs.Valuations.{place, After}
use Rattle.runs.proofs.Sets.{flip, zero_or_one}
use Rattle.runs.proofs.Table.{at2, at3}

pub flip_lt : (i v : ℕ) → i < 6 → v < 64 → flip v i < 64
flip_lt i v hi hv = ltb→lt (flip v i) 64 (at2 (λ j u. ltb (flip u j) 64) 6 64 tt i v hi hv)

flip_bit : (i v k : ℕ) → i < 6 → v < 64 → k < 6 → bit (flip v i) k ≡ cond (eqb i k) (1 - bit v k) (bit v k)
flip_bit i v k hi hv hk =
    eqb→eq (bit (flip v i) k) (cond (eqb i k) (1 - bit v k) (bit v k))
    (at3 (λ j u l. eqb (bit (flip u j) l) (cond (eqb j l) (1 - bit u l) (bit u l))) 6 64 6 tt i v k hi hv hk)

pub flip_other : (i v k : ℕ) → i < 6 → v < 64 → k < 6 → (i ≡ k → ⊥) → bit (flip v i) k ≡ bit v k
flip_other i v k hi hv hk apart = flip_bit i v k hi hv hk ∙ cond-false (eqb i k) (1 - bit v k) (bit v k) (ne_eqb i k apart)

pub flip_same : (i v : ℕ) → i < 6 → v < 64 → bit (flip v i) i ≡ 1 - bit v i
flip_same i v hi hv = flip_bit i v i hi hv hi ∙ cond-true (eqb i i) (1 - bit v i) (bit v i) (eq-eqb i i refl)

-- valuations with the same bits are the same
pub same_bits : (v w : ℕ) → v < 64 → w < 64 → ((k : ℕ) → k < 6 → bit v k ≡ bit w k) → v ≡ w
same_bits v w hv hw h =
    omega (arith, h 0 (omega arith), h 1 (omega arith), h 2 (omega arith), h 3 (omega arith), h 4 (omega arith), h 5 (omega arith))

-- only the registers of m below i may differ
abbrev pub FollowsTo : ℕ → ℕ → ℕ → ℕ → Type 0
FollowsTo i m v w = (k : ℕ) → k < 6 → ((k < i) × (bit m k ≡ 1)) ⊎ (bit v k ≡ bit w k)

abbrev pub AfterTo : ℕ → ℕ → ℕ → ℕ → Type 0
AfterTo i set m w = (v : ℕ) × (v < 64) × (bit set v ≡ 1) × (FollowsTo i m v w)

abbrev pub Expanded : ℕ → ℕ → ℕ → ℕ → Type 0
Expanded i set m r = (w : ℕ) → w < 64 → (bit r w ≡ 1) ↔ AfterTo i set m w

pub expanded_none : (set m : ℕ) → Expanded 0 set m set
expanded_none set m w hw = (
  λ h. (w, hw, h, λ k hk. inr refl),
  λ a. subst (λ (x : ℕ). bit set x ≡ 1)
      (same_bits a.0 w a.1 hw (λ k hk. ⊎_elim (λ p. absurd (omega (arith, p.0))) (λ e. e) (a.3 k hk))) a.2,
)

pub expanded_all : (set m r : ℕ) → Expanded 6 set m r → (w : ℕ) → w < 64 → (bit r w ≡ 1) ↔ After (record { bits = set }) (record { mask = m }) w
expanded_all set m r x w hw = (
  λ h. let a = (x w hw).0 h in (a.0, a.1, a.2, λ k hk. ⊎_elim (λ p. inl p.1) inr (a.3 k hk)),
  λ a. (x w hw).1 (a.0, a.1, a.2, λ k hk. ⊎_elim (λ e. inl (hk, e)) inr (a.3 k hk)),
)

pub expanded_skip : (i set m r : ℕ) → (bit m i ≡ 1 → ⊥) → Expanded i set m r → Expanded (i + 1) set m r
expanded_skip i set m r off x w hw = (
  λ h. let a = (x w hw).0 h in (a.0, a.1, a.2, λ k hk. ⊎_elim (λ p. inl (omega (arith, p.0), p.1)) inr (a.3 k hk)),
  λ a. (x w hw).1 (a.0, a.1, a.2, λ k hk. ⊎_elim (λ p. inl (narrow k p, p.1)) inr (a.3 k hk)),
)
  where
    narrow : (k : ℕ) → (k < i + 1) × (bit m k ≡ 1) → k < i
    narrow k p = ⊎_elim (λ e. absurd (off (ap (bit m) (sym e) ∙ p.1))) (λ apart. omega (arith, p.0)) (cases_eq k i)

pub expanded_more : (i set m r r' : ℕ) → i < 6 → bit m i ≡ 1 → ((v : ℕ) → v < 64 → bit r' v ≡ max (bit r v) (bit r (flip v i)))
    → Expanded i set m r → Expanded (i + 1) set m r'
expanded_more i set m r r' hi on joined x w hw = (back, forth)
  where
    hf : flip w i < 64
    hf = flip_lt i w hi hw

    -- a step to w but for register i
    wider : (v : ℕ) → FollowsTo i m v w → FollowsTo (i + 1) m v w
    wider v s k hk = ⊎_elim (λ p. inl (omega (arith, p.0), p.1)) inr (s k hk)

    over : (v : ℕ) → FollowsTo i m v (flip w i) → FollowsTo (i + 1) m v w
    over v s k hk =
        ⊎_elim (λ e. inl (omega arith, ap (bit m) (sym e) ∙ on))
        (λ apart. ⊎_elim (λ p. inl (omega (arith, p.0), p.1)) (λ e. inr (e ∙ flip_other i w k hi hw hk apart)) (s k hk)) (cases_eq i k)

    stays : (v : ℕ) → bit v i ≡ bit w i → FollowsTo (i + 1) m v w → FollowsTo i m v w
    stays v e s k hk =
        ⊎_elim (λ q. inr (subst (λ (y : ℕ). bit v y ≡ bit w y) q e))
        (λ apart. ⊎_elim (λ p. inl (omega (arith, p.0), p.1)) inr (s k hk)) (cases_eq i k)

    turns : (v : ℕ) → (bit v i ≡ bit w i → ⊥) → FollowsTo (i + 1) m v w → FollowsTo i m v (flip w i)
    turns v ne s k hk =
        ⊎_elim (λ q. inr (subst (λ (y : ℕ). bit v y ≡ bit (flip w i) y) q (omega (arith, flip_same i w hi hw, ne))))
        (λ apart. ⊎_elim (λ p. inl (omega (arith, p.0), p.1)) (λ e. inr (e ∙ sym (flip_other i w k hi hw hk apart))) (s k hk)) (cases_eq i k)

    back : (bit r' w ≡ 1) → AfterTo (i + 1) set m w
    back h =
        ⊎_elim (λ z. let a = (x (flip w i) hf).0 (omega (arith, joined w hw)) in (a.0, a.1, a.2, over a.0 a.3))
        (λ o. let a = (x w hw).0 o in (a.0, a.1, a.2, wider a.0 a.3)) (zero_or_one r w)

    forth : AfterTo (i + 1) set m w → bit r' w ≡ 1
    forth a =
        ⊎_elim (λ e. omega (arith, joined w hw, (x w hw).1 (a.0, a.1, a.2, stays a.0 e a.3)))
        (λ ne. omega (arith, joined w hw, (x (flip w i) hf).1 (a.0, a.1, a.2, turns a.0 ne a.3))) (cases_eq (bit a.0 i) (bit w i))

-- the registers stand by their places
pub place_at : (k : ℕ) (d : ConditionRegister) → k < 6 → place (get_or (B0 ∷ B1 ∷ B2 ∷ A1 ∷ A2 ∷ A0 ∷ []) k d) ≡ k
place_at zero d h = refl
place_at (suc zero) d h = refl
place_at (suc (suc zero)) d h = refl
place_at (suc (suc (suc zero))) d h = refl
place_at (suc (suc (suc (suc zero)))) d h = refl
place_at (suc (suc (suc (suc (suc zero))))) d h = refl
place_at (suc (suc (suc (suc (suc (suc k)))))) d h = absurd (omega arith)

-- one register more, which may change
pub expanded_turn : (i p set m r r' : ℕ) → p ≡ i → i < 6 → bit m p ≡ 1 → ((v : ℕ) → v < 64 → bit r' v ≡ max (bit r v) (bit r (flip v p)))
    → Expanded i set m r → Expanded (i + 1) set m r'
expanded_turn i p set m r r' e hi on joined before =
    let (now, both) = subst (λ q. (bit m q ≡ 1) × ((v : ℕ) → v < 64 → bit r' v ≡ max (bit r v) (bit r (flip v q)))) e (on, joined) in
    expanded_more i set m r r' hi now both before
