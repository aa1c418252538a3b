-- A test whether some run performs two instructions: sets of valuations as numbers, carried from packet to packet.
-- Assumes nothing.
use Rattle.std.proofs.Common.{◌≡◌, ℕ, zero, suc, ◌+◌, ◌-◌, ◌*◌, ◌/◌, ◌%◌, ◌^◌, ◌<◌, ◌≤◌, Bool, true, false, cond, not, eqb, List, length, Decides, sym, refl, ◌∙◌, subst, ⊎_elim, add-one, arith, ◌↔◌}
use lib.Bits.{bit_and, bit_or, and_le_r}
use Rattle.std.proofs.lemmas.Bool.{cases_Bool, eqb-true, eqb-false, ne_eqb, not-true, not_from_false, cond-true, cond-false}
use Rattle.isa.specs.Bits.{bit}
use Rattle.isa.specs.declared.condition.Condition.{Condition}
use Rattle.isa.specs.declared.condition.Condition.TheVariants.{Always, Nonzero, Zero}
use Rattle.isa.specs.declared.condition.ConditionRegister.{ConditionRegister}
use Rattle.isa.specs.declared.condition.ConditionRegister.TheVariants.{B0, B1, B2, A1, A2, A0}
use Rattle.admission.specs.declared.instruction.Instruction.{Instruction}
use Rattle.runs.specs.declared.valuations.Valuations.{Valuations}
use Rattle.runs.specs.Valuations.{place, Meets, Has, MayChange, After}
use Rattle.runs.specs.Runs.{Carries, Reaches}
use Rattle.runs.proofs.Sets.{high, high_at, low_at, full_at, spread_at, bit-bit_and, some_bit, no_bit, zero_or_one}
use Rattle.runs.proofs.Expanding.{Expanded, expanded_none, expanded_skip, expanded_more, expanded_all}
use Rattle.runs.proofs.Carrying.{Shared, reaches_first, carries_start, carries_more, both_there, both_back}
use Rattle.constraints.specs.Schedules.{May}
use Rattle.constraints.specs.Constraints.{PerformsBoth}
use Rattle.decision.proofs.Landing.{may}

-- ---- the valuations in which a condition holds

abbrev pub meeting : Condition → ℕ
meeting Always = 0xffff_ffff_ffff_ffff
meeting (Nonzero r) = high (place r)
meeting (Zero r) = (2 ^ 64 - 1) - high (place r)

six : (r : ConditionRegister) → place r < 6
six B0 = omega arith
six B1 = omega arith
six B2 = omega arith
six A1 = omega arith
six A2 = omega arith
six A0 = omega arith

high_fits : (r : ConditionRegister) → high (place r) < 2 ^ 64
high_fits B0 = omega arith
high_fits B1 = omega arith
high_fits B2 = omega arith
high_fits A1 = omega arith
high_fits A2 = omega arith
high_fits A0 = omega arith

meeting_at : (c : Condition) (v : ℕ) → v < 64 → (bit (meeting c) v ≡ 1) ↔ Meets c v
meeting_at Always v hv = (λ h. tt, λ h. full_at v hv)
meeting_at (Nonzero r) v hv = let e = high_at (place r) v (six r) hv in (λ h. sym e ∙ h, λ h. e ∙ h)
meeting_at (Zero r) v hv = let e = low_at (place r) v (six r) hv in (λ h. omega arith, λ h. omega arith)

meeting_fits : (c : Condition) → meeting c < 2 ^ 64
meeting_fits Always = omega arith
meeting_fits (Nonzero r) = high_fits r
meeting_fits (Zero r) = omega arith

-- ---- one packet more

abbrev pub spread : ℕ → ℕ → ℕ
spread s i = bit_or (bit_or s (bit_and s (high i) / 2 ^ (2 ^ i))) (bit_and ((s * 2 ^ (2 ^ i)) % 2 ^ 64) (high i))

abbrev pub expand : ℕ → ℕ → ℕ → ℕ
expand m s zero = s
expand m s (suc i) = cond (eqb (bit m i) 1) (spread (expand m s i) i) (expand m s i)

expanded : (m s i : ℕ) → i ≤ 6 → Expanded i s m (expand m s i)
expanded m s zero h = expanded_none s m
expanded m s (suc i) h =
    let before = expanded m s i (omega arith) in
    subst (λ (k : ℕ). Expanded k s m (expand m s (suc i))) (add-one i)
    (⊎_elim
    (λ t. subst (Expanded (i + 1) s m) (sym (cond-true (eqb (bit m i) 1) (spread (expand m s i) i) (expand m s i) t))
    (expanded_more i s m (expand m s i) (spread (expand m s i) i) (omega arith) (eqb-true (bit m i) 1 t)
    (λ v hv. spread_at (expand m s i) i v (omega arith) hv) before))
    (λ f. subst (Expanded (i + 1) s m) (sym (cond-false (eqb (bit m i) 1) (spread (expand m s i) i) (expand m s i) f))
    (expanded_skip i s m (expand m s i) (eqb-false (bit m i) 1 f) before)) (cases_Bool (eqb (bit m i) 1)))

abbrev pub step : ℕ → ℕ → ℕ → ℕ
step lawful s m = bit_and lawful (expand m s 6)

abbrev set : ℕ → Valuations
set n = record { bits = n }

shared : (a b : ℕ) → Shared (set (bit_and a b)) (set a) (set b)
shared a b v = let e = bit-bit_and a b v in let x = zero_or_one a v in let y = zero_or_one b v in
    (λ h. (⊎_elim (λ z. absurd (omega arith)) (λ o. o) x, ⊎_elim (λ z. absurd (omega arith)) (λ o. o) y), λ (p, q). omega arith)

stepped : (lawful s m w : ℕ) → w < 64 → Has (set (step lawful s m)) w ↔ (Has (set lawful) w × After (set s) (record { mask = m }) w)
stepped lawful s m w hw =
    let e = shared lawful (expand m s 6) w in
    let x = expanded_all s m (expand m s 6) (expanded m s 6 (omega arith)) w hw in
    (λ h. ((e.0 h).0, x.0 (e.0 h).1), λ (p, q). e.1 (p, x.1 q))

-- ---- what may change

abbrev pub digit : Bool → ℕ
digit b = cond b 1 0

abbrev pub mask : (ℕ → Bool) → ℕ
mask f = digit (f 0) + 2 * digit (f 1) + 4 * digit (f 2) + 8 * digit (f 3) + 16 * digit (f 4) + 32 * digit (f 5)

digit_small : (b : Bool) → digit b ≤ 1
digit_small true = omega arith
digit_small false = omega arith

digit_one : (b : Bool) → (digit b ≡ 1) ↔ (b ≡ true)
digit_one true = (λ e. refl, λ e. refl)
digit_one false = (λ e. absurd (omega arith), λ e. absurd (let z : ◌≡◌ {A = ℕ} 0 1 = cc in omega arith))

sixth : (a b c d e f i : ℕ) → a ≤ 1 → b ≤ 1 → c ≤ 1 → d ≤ 1 → e ≤ 1 → f ≤ 1 → (g : ℕ → ℕ) → g 0 ≡ a → g 1 ≡ b → g 2 ≡ c → g 3 ≡ d → g 4 ≡ e → g 5 ≡ f → i < 6
    → bit (a + 2 * b + 4 * c + 8 * d + 16 * e + 32 * f) i ≡ g i
sixth a b c d e f zero ha hb hc hd he hf g ga gb gc gd ge gf h = omega arith
sixth a b c d e f (suc zero) ha hb hc hd he hf g ga gb gc gd ge gf h = omega arith
sixth a b c d e f (suc (suc zero)) ha hb hc hd he hf g ga gb gc gd ge gf h = omega arith
sixth a b c d e f (suc (suc (suc zero))) ha hb hc hd he hf g ga gb gc gd ge gf h = omega arith
sixth a b c d e f (suc (suc (suc (suc zero)))) ha hb hc hd he hf g ga gb gc gd ge gf h = omega arith
sixth a b c d e f (suc (suc (suc (suc (suc zero))))) ha hb hc hd he hf g ga gb gc gd ge gf h = omega arith
sixth a b c d e f (suc (suc (suc (suc (suc (suc i)))))) ha hb hc hd he hf g ga gb gc gd ge gf h = absurd (omega arith)

mask_at : (f : ℕ → Bool) (i : ℕ) → i < 6 → (bit (mask f) i ≡ 1) ↔ (f i ≡ true)
mask_at f i h =
    let e = sixth (digit (f 0)) (digit (f 1)) (digit (f 2)) (digit (f 3)) (digit (f 4)) (digit (f 5)) i (digit_small (f 0)) (digit_small (f 1)) (digit_small (f 2)) (digit_small (f 3)) (digit_small (f 4)) (digit_small (f 5))
    (λ k. digit (f k)) refl refl refl refl refl refl h in
    let d = digit_one (f i) in
    (λ b. d.0 (sym e ∙ b), λ t. e ∙ d.1 t)

abbrev pub changing : List (List Instruction) → ℕ → ℕ
changing past k = mask (λ i. (may past k i).passes)

changing_at : (past : List (List Instruction)) (k i : ℕ) → i < 6 → MayChange (record { mask = changing past k }) i ↔ May past k i
changing_at past k i h =
    let m = mask_at (λ j. (may past k j).passes) i h in
    (λ b. (may past k i).decides.0 (m.0 b), λ p. m.1 ((may past k i).decides.1 p))

-- ---- the sets of packets

abbrev pub reached : Valuations → Valuations → List (List Instruction) → ℕ → ℕ
reached lawful start past zero = bit_and lawful.bits start.bits
reached lawful start past (suc n) = step lawful.bits (reached lawful start past n) (changing past n)

abbrev pub carried : Valuations → Valuations → List (List Instruction) → ℕ → Condition → ℕ → ℕ
carried lawful start past j c zero = bit_and (reached lawful start past j) (meeting c)
carried lawful start past j c (suc d) = step lawful.bits (carried lawful start past j c d) (changing past (j + d))

module _ (lawful start : Valuations) (past : List (List Instruction)) where
  reaches : (n : ℕ) → Reaches lawful start (May past) n (set (reached lawful start past n))
  reaches zero = reaches_first lawful start (May past) (set (bit_and lawful.bits start.bits)) (shared lawful.bits start.bits)
  reaches (suc n) =
      let s = reached lawful start past n in
      subst (λ (k : ℕ). Carries lawful start (May past) k n Always (set (step lawful.bits s (changing past n)))) (add-one n)
      (carries_more lawful start (May past) n n Always (set s) (set (step lawful.bits s (changing past n))) (record { mask = changing past n }) (omega arith)
      (changing_at past n) (stepped lawful.bits s (changing past n)) (reaches n))

  starts : (j : ℕ) (c : Condition) → Carries lawful start (May past) j j c (set (bit_and (reached lawful start past j) (meeting c)))
  starts j c =
      carries_start lawful start (May past) j c (set (reached lawful start past j)) (set (meeting c)) (set (bit_and (reached lawful start past j) (meeting c)))
      (meeting_at c) (shared (reached lawful start past j) (meeting c)) (reaches j)

  carries : (j : ℕ) (c : Condition) (d : ℕ) → Carries lawful start (May past) (j + d) j c (set (carried lawful start past j c d))
  carries j c zero =
      let e : j ≡ j + zero = omega arith in
      subst (λ (n : ℕ). Carries lawful start (May past) n j c (set (carried lawful start past j c zero))) e (starts j c)
  carries j c (suc d) =
      let e : (j + d) + 1 ≡ j + suc d = omega arith in
      let s = carried lawful start past j c d in
      subst (λ (n : ℕ). Carries lawful start (May past) n j c (set (step lawful.bits s (changing past (j + d))))) e
      (carries_more lawful start (May past) (j + d) j c (set s) (set (step lawful.bits s (changing past (j + d)))) (record { mask = changing past (j + d) }) (omega arith)
      (changing_at past (j + d)) (stepped lawful.bits s (changing past (j + d))) (carries j c d))

-- ---- two instructions

abbrev pub performs : Valuations → Valuations → List (List Instruction) → ℕ → Condition → Condition → Bool
performs lawful start past k c d =
    not (eqb (bit_and (carried lawful start past k c (length past - k)) (bit_and (reached lawful start past (length past)) (meeting d))) 0)

pub performs_decides : (lawful start : Valuations) (past : List (List Instruction)) (k : ℕ) (x y : Instruction) → k ≤ length past
    → Decides (performs lawful start past k x.condition y.condition) (PerformsBoth lawful start past k x y)
performs_decides lawful start past k x y h =
    let n = length past in
    let c = x.condition in
    let d = y.condition in
    let s = carried lawful start past k c (n - k) in
    let t = bit_and (reached lawful start past n) (meeting d) in
    let e : k + (n - k) ≡ n = omega arith in
    let first : Carries lawful start (May past) n k c (set s) = subst (λ (m : ℕ). Carries lawful start (May past) m k c (set s)) e (carries lawful start past k c (n - k)) in
    let second = starts lawful start past n d in
    let small : bit_and s t < 2 ^ 64 = omega (arith, and_le_r s t, and_le_r (reached lawful start past n) (meeting d), meeting_fits d) in (
      λ e. let (v, hv, b) = some_bit 64 (bit_and s t) small (eqb-false (bit_and s t) 0 (not-true (eqb (bit_and s t) 0) e)) in
          let (p, q) = (shared s t v).0 b in
          both_there lawful start (May past) n k c d (set s) (set t) first second (v, hv, p, q),
      λ b. let (v, hv, p, q) = both_back lawful start (May past) n k c d (set s) (set t) first second b in
          not_from_false (eqb (bit_and s t) 0) (ne_eqb (bit_and s t) 0 (λ z. no_bit v (subst (λ (m : ℕ). bit m v ≡ 1) z ((shared s t v).1 (p, q))))),
    )
