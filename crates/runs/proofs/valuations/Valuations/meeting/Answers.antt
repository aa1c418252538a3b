use Rattle.std.proofs.Common.{◌≡◌, ℕ, ◌-◌, ◌^◌, ◌<◌, sym, ap, ◌∙◌, subst, arith, ◌↔◌}
use Rattle.isa.specs.declared.condition.Condition.{Condition}
use Rattle.isa.specs.declared.condition.Condition.TheVariants.{Always, Nonzero, Zero}
use Rattle.isa.specs.Bits.{bit}
use Rattle.runs.specs.Valuations.{place, Meets}
use Rattle.runs.proofs.Sets.{high, place_lt, full_at, high_at, low_at}
use Rattle.runs.proofs.valuations.Valuations.meeting.Goals as goal

-- the set of one condition is that of any equal to it
by_case : (b : ℕ) (k l : Condition) → k ≡ l → ((v : ℕ) → v < 64 → (bit b v ≡ 1) ↔ Meets l v) → (v : ℕ) → v < 64 → (bit b v ≡ 1) ↔ Meets k v
by_case b k l e f v hv = subst (λ x. (bit b v ≡ 1) ↔ Meets x v) (sym e) (f v hv)

pub returns-in-Always : goal.returns-in-Always
returns-in-Always c = record { members = by_case 0xffff_ffff_ffff_ffff c.args.condition Always c.in-Always.is (λ v hv. (λ h. tt, λ h. full_at v hv)) }

pub returns-in-Nonzero : goal.returns-in-Nonzero
returns-in-Nonzero c =
    let r = c.in-Nonzero.register in
    let e = c.place.ensures.value in
    record {
      members = by_case (high c.place.result) c.args.condition (Nonzero r) c.in-Nonzero.is
          (λ v hv. let b = ap (λ i. bit (high i) v) e ∙ high_at (place r) v (place_lt r) hv in (λ h. sym b ∙ h, λ h. b ∙ h));
    }

pub returns-in-Zero : goal.returns-in-Zero
returns-in-Zero c =
    let r = c.in-Zero.register in
    let e = c.place-in-Zero.ensures.value in
    record {
      members = by_case ((2 ^ 64 - 1) - high c.place-in-Zero.result) c.args.condition (Zero r) c.in-Zero.is
          (λ v hv. let b = ap (λ i. bit ((2 ^ 64 - 1) - high i) v) e ∙ low_at (place r) v (place_lt r) hv in (λ h. omega (arith, b, h), λ h. b ∙ omega (arith, h)));
    }
