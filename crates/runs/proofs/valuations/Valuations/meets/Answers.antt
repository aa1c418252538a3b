use Rattle.std.proofs.Common.{◌≡◌, ℕ, ◌^◌, ◌<◌, true, not, eqb, length, sym, ap, ◌∙◌, lt_of_le_of_lt, arith, rules}
use lib.Bits.{bit_and, and_le_r}
use Rattle.std.proofs.lemmas.Bool.{not-true, not_from_false, eqb-false, ne_eqb}
use Rattle.isa.specs.Bits.{bit}
use Rattle.runs.specs.Runs.{MayOf}
use Rattle.runs.proofs.Sets.{bit-bit_and, some_bit, no_bit}
use Rattle.runs.proofs.Carrying.{both_there, both_back}
use Rattle.runs.proofs.valuations.Valuations.meets.Goals as goal

-- two numbers share a bit just if their conjunction is not 0
shared : (a b : ℕ) → b < 2 ^ 64 → not (eqb (bit_and a b) 0) ≡ true → (v : ℕ) × (v < 64) × (bit a v ≡ 1) × (bit b v ≡ 1)
shared a b fits t =
    let (v, hv, one) = some_bit 64 (bit_and a b) (lt_of_le_of_lt (and_le_r a b) fits) (eqb-false (bit_and a b) 0 (not-true (eqb (bit_and a b) 0) t)) in
    let e = bit-bit_and a b v in
    (v, hv, omega arith, omega arith)

apart : (a b : ℕ) → (v : ℕ) × (v < 64) × (bit a v ≡ 1) × (bit b v ≡ 1) → not (eqb (bit_and a b) 0) ≡ true
apart a b (v, hv, p, q) =
    not_from_false (eqb (bit_and a b) 0) (ne_eqb (bit_and a b) 0 (λ none. no_bit v (ap (λ (x : ℕ). bit x v) (sym none) ∙ bit-bit_and a b v ∙ omega arith)))

pub returns : goal.returns
returns c =
    let s = c.args.self in
    let t = c.args.other in
    let there = shared s.bits t.bits (search rules) in
    let back = apart s.bits t.bits in
    record {
      decides = (there, back);
      both = λ lawful start ms j k d held last.
          (λ r. both_there lawful start (MayOf ms) (length ms) j k d s t held last (there r), λ p. back (both_back lawful start (MayOf ms) (length ms) j k d s t held last p));
    }
