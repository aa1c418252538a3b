-- Sets of valuations as numbers: what the operations do to each bit.
-- Assumes nothing.
use Rattle.std.proofs.Common.{◌≡◌, ℕ, zero, suc, ◌+◌, ◌-◌, ◌*◌, ◌/◌, ◌%◌, ◌^◌, ◌<◌, ◌≤◌, ◌↔◌, min, max, cond, eqb, ◌⊎◌, List, [], ◌∷◌, get_or, sym, ap, ◌∙◌, ap₂, inl, inr, ⊎_elim, pow-suc, arith, eqb→eq, pow_mono, shr-shr, lit<}
use native.Mathlib.Nat.{div-eq_of_lt}
use lib.Arith.{digits_mod}
use lib.Bits.{bit_and, bit_or, bit_xor, and_step, or_step, and_shr, or_shr}
use lib.Pow.{shl-shr, field, mod-mod-pow}
use Rattle.std.proofs.lemmas.Bool.{cases_eq, ne_eqb, eq-eqb, cond-true, cond-false}
use Rattle.isa.specs.Bits.{bit}
use Rattle.isa.specs.declared.condition.ConditionRegister.{ConditionRegister}
use Rattle.isa.specs.declared.condition.ConditionRegister.TheVariants.{B0, B1, B2, A1, A2, A0}
use Rattle.runs.specs.Valuations.{place}
use Rattle.runs.proofs.Table.{at, at2}

pub bit_lt : (n k : ℕ) → bit n k < 2
bit_lt n k = omega arith

pub zero_or_one : (n k : ℕ) → (bit n k ≡ 0) ⊎ (bit n k ≡ 1)
zero_or_one n k = ⊎_elim inl (λ apart. inr (omega arith)) (cases_eq (bit n k) 0)

pub bit-bit_and : (a b k : ℕ) → bit (bit_and a b) k ≡ min (bit a k) (bit b k)
bit-bit_and a b k =
    ap (λ (x : ℕ). x % 2) (and_shr a b k ∙ and_step (a / 2 ^ k) (b / 2 ^ k))
    ∙ digits_mod (bit_and (a / 2 ^ k / 2) (b / 2 ^ k / 2)) (omega arith)

pub bit-bit_or : (a b k : ℕ) → bit (bit_or a b) k ≡ max (bit a k) (bit b k)
bit-bit_or a b k =
    ap (λ (x : ℕ). x % 2) (or_shr a b k ∙ or_step (a / 2 ^ k) (b / 2 ^ k))
    ∙ digits_mod (bit_or (a / 2 ^ k / 2) (b / 2 ^ k / 2)) (omega arith)

pub bit-shr : (a j k : ℕ) → bit (a / 2 ^ j) k ≡ bit a (j + k)
bit-shr a j k = ap (λ (x : ℕ). x % 2) (shr-shr a j k)

-- the bits below w stay
pub bit-mod : (a w k : ℕ) → k < w → bit (a % 2 ^ w) k ≡ bit a k
bit-mod a w k h =
    let e : suc (w - k - 1) + k ≡ w = omega arith in
    let f : suc (w - k - 1) ≡ (w - k - 1) + 1 = omega arith in
    ap (λ (x : ℕ). a % 2 ^ x / 2 ^ k % 2) (sym e) ∙ ap (λ (x : ℕ). x % 2) (field a (suc (w - k - 1)) k)
    ∙ ap (λ (x : ℕ). a / 2 ^ k % 2 ^ x % 2) f ∙ mod-mod-pow (a / 2 ^ k) (w - k - 1) 1

pub bit-shl : (a j k : ℕ) → bit (a * 2 ^ j) (j + k) ≡ bit a k
bit-shl a j k = ap (λ (x : ℕ). x % 2) (sym (shr-shr (a * 2 ^ j) j k) ∙ ap (λ (x : ℕ). x / 2 ^ k) (shl-shr a j))

-- a number below 2 ^ w has no bit at w or above
pub bit_past : (a w k : ℕ) → a < 2 ^ w → w ≤ k → bit a k ≡ 0
bit_past a w k h l =
    let p : 2 ^ w ≤ 2 ^ k = pow_mono l in
    let q : a < 2 ^ k = omega arith in
    ap (λ (x : ℕ). x % 2) (div-eq_of_lt q)

-- the valuations in which register i is nonzero, for each i
abbrev pub highs : List ℕ
highs = 0xaaaa_aaaa_aaaa_aaaa ∷ 0xcccc_cccc_cccc_cccc ∷ 0xf0f0_f0f0_f0f0_f0f0 ∷ 0xff00_ff00_ff00_ff00 ∷ 0xffff_0000_ffff_0000 ∷ 0xffff_ffff_0000_0000 ∷ []

abbrev pub high : ℕ → ℕ
high i = get_or highs i 0

pub high_at : (i v : ℕ) → i < 6 → v < 64 → bit (high i) v ≡ bit v i
high_at i v hi hv = eqb→eq (bit (high i) v) (bit v i) (at2 (λ j u. eqb (bit (high j) u) (bit u j)) 6 64 tt i v hi hv)

pub low_at : (i v : ℕ) → i < 6 → v < 64 → bit ((2 ^ 64 - 1) - high i) v ≡ 1 - bit v i
low_at i v hi hv =
    eqb→eq (bit ((2 ^ 64 - 1) - high i) v) (1 - bit v i) (at2 (λ j u. eqb (bit ((2 ^ 64 - 1) - high j) u) (1 - bit u j)) 6 64 tt i v hi hv)

pub high_up : (i v : ℕ) → i < 6 → v < 64 → bit (high i) (2 ^ i + v) ≡ 1 - bit v i
high_up i v hi hv =
    eqb→eq (bit (high i) (2 ^ i + v)) (1 - bit v i) (at2 (λ j u. eqb (bit (high j) (2 ^ j + u)) (1 - bit u j)) 6 64 tt i v hi hv)

-- the other value of register i
abbrev pub flip : ℕ → ℕ → ℕ
flip v i = bit_xor v (2 ^ i)

pub flip_is : (i v : ℕ) → i < 6 → v < 64 → flip v i + 2 ^ i * bit v i ≡ v + 2 ^ i * (1 - bit v i)
flip_is i v hi hv =
    eqb→eq (flip v i + 2 ^ i * bit v i) (v + 2 ^ i * (1 - bit v i))
    (at2 (λ j u. eqb (flip u j + 2 ^ j * bit u j) (u + 2 ^ j * (1 - bit u j))) 6 64 tt i v hi hv)

pub full_at : (v : ℕ) → v < 64 → bit 0xffff_ffff_ffff_ffff v ≡ 1
full_at v hv = eqb→eq (bit 0xffff_ffff_ffff_ffff v) 1 (at (λ u. eqb (bit 0xffff_ffff_ffff_ffff u) 1) 64 tt v hv)

-- the set s, with each valuation joined by the one that differs in register i
pub spread_at : (s i v : ℕ) → i < 6 → v < 64
    → bit (bit_or (bit_or s (bit_and s (high i) / 2 ^ (2 ^ i))) (bit_and ((s * 2 ^ (2 ^ i)) % 2 ^ 64) (high i))) v ≡ max (bit s v) (bit s (flip v i))
spread_at s i v hi hv =
    bit-bit_or (bit_or s (bit_and s (high i) / 2 ^ (2 ^ i))) (bit_and ((s * 2 ^ (2 ^ i)) % 2 ^ 64) (high i)) v
    ∙ ap₂ max
    (bit-bit_or s (bit_and s (high i) / 2 ^ (2 ^ i)) v
    ∙ ap (max (bit s v)) (bit-shr (bit_and s (high i)) (2 ^ i) v ∙ bit-bit_and s (high i) (2 ^ i + v) ∙ ap (min (bit s (2 ^ i + v))) (high_up i v hi hv)))
    (bit-bit_and ((s * 2 ^ (2 ^ i)) % 2 ^ 64) (high i) v ∙ ap₂ min (bit-mod (s * 2 ^ (2 ^ i)) 64 v hv) (high_at i v hi hv))
    ∙ ⊎_elim when_zero when_one (zero_or_one v i)
  where
    when_zero : bit v i ≡ 0
        → max (max (bit s v) (min (bit s (2 ^ i + v)) (1 - bit v i))) (min (bit (s * 2 ^ (2 ^ i)) v) (bit v i)) ≡ max (bit s v) (bit s (flip v i))
    when_zero e =
        let f : flip v i ≡ 2 ^ i + v = omega (arith, simp e at (flip_is i v hi hv)) in
        rw (e, f) (omega arith)

    when_one : bit v i ≡ 1
        → max (max (bit s v) (min (bit s (2 ^ i + v)) (1 - bit v i))) (min (bit (s * 2 ^ (2 ^ i)) v) (bit v i)) ≡ max (bit s v) (bit s (flip v i))
    when_one e =
        let f : 2 ^ i + flip v i ≡ v = omega (arith, simp e at (flip_is i v hi hv)) in
        let g : bit (s * 2 ^ (2 ^ i)) v ≡ bit s (flip v i) = ap (bit (s * 2 ^ (2 ^ i))) (sym f) ∙ bit-shl s (2 ^ i) (flip v i) in
        rw (e, g) (omega arith)

-- a number that is not 0 has a bit
pub some_bit : (w n : ℕ) → n < 2 ^ w → (n ≡ 0 → ⊥) → (v : ℕ) × (v < w) × (bit n v ≡ 1)
some_bit zero n h ne = absurd (ne (omega arith))
some_bit (suc w) n h ne =
    ⊎_elim
    (λ z. let p : 2 ^ suc w ≡ 2 ^ w * 2 = pow-suc 2 w in
    let b = some_bit w (n / 2) (omega arith) (λ q. ne (omega arith)) in
    let e : bit n (1 + b.0) ≡ 1 = sym (bit-shr n 1 b.0) ∙ b.2 in
    (1 + b.0, omega (arith, b.1), e))
    (λ o. (0, omega arith, o)) (zero_or_one n 0)

pub no_bit : (v : ℕ) → bit 0 v ≡ 1 → ⊥
no_bit v h = absurd (omega (arith, zero_bit v))
  where
    zero_bit : (v : ℕ) → bit 0 v ≡ 0
    zero_bit v = bit_past 0 0 v (omega arith) (omega arith)

pub place_lt : (r : ConditionRegister) → place r < 6
place_lt B0 = lit< tt
place_lt B1 = lit< tt
place_lt B2 = lit< tt
place_lt A1 = lit< tt
place_lt A2 = lit< tt
place_lt A0 = lit< tt

-- the mask of one place has just that bit
pub one_bit : (p i : ℕ) → p < 6 → i < 6 → (bit (1 * 2 ^ p % 256) i ≡ 1) ↔ (p ≡ i)
one_bit p i hp hi =
    let e = eqb→eq (bit (1 * 2 ^ p % 256) i) (cond (eqb p i) 1 0) (at2 (λ q k. eqb (bit (1 * 2 ^ q % 256) k) (cond (eqb q k) 1 0)) 6 6 tt p i hp hi) in (
      λ h. ⊎_elim (λ same. same) (λ apart. absurd (omega (arith, e ∙ cond-false (eqb p i) 1 0 (ne_eqb p i apart), h))) (cases_eq p i),
      λ same. e ∙ cond-true (eqb p i) 1 0 (eq-eqb p i same),
    )

-- a bit of two masks joined
pub or_either : (a b i : ℕ) {P Q : Type 0} → (bit a i ≡ 1) ↔ P → (bit b i ≡ 1) ↔ Q → (bit (bit_or a b) i ≡ 1) ↔ (P ⊎ Q)
or_either a b i (p, back_p) (q, back_q) =
    let e = bit-bit_or a b i in (
      λ h. ⊎_elim (λ zero_a. ⊎_elim (λ zero_b. absurd (omega arith)) (λ one_b. inr (q one_b)) (zero_or_one b i)) (λ one_a. inl (p one_a)) (zero_or_one a i),
      ⊎_elim (λ x. let one_a = back_p x in ⊎_elim (λ zero_b. omega arith) (λ one_b. omega arith) (zero_or_one b i))
          (λ y. let one_b = back_q y in ⊎_elim (λ zero_a. omega arith) (λ one_a. omega arith) (zero_or_one a i)),
    )
