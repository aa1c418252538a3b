use Rattle.std.proofs.Common.{◌≡◌, ℕ, ◌+◌, sym, subst, arith}
use Rattle.std.proofs.lemmas.Bool.{both_ways}
use Rattle.isa.specs.Bits.{bit}
use Rattle.runs.proofs.Expanding.{Expanded, expanded_none, expanded_all, expanded_skip, expanded_turn, place_at}
use Rattle.runs.proofs.valuations.expand.Goals as goal
use Rattle.runs.proofs.valuations.expand.Goals.{then-contain, else-contain}

pub loop-register-init : goal.loop-register-init
loop-register-init c = expanded_none c.args.set.bits c.args.changes.mask

pub loop-register-preserved : goal.loop-register-preserved
loop-register-preserved c =
    let k = c.loop-register.register-index in
    let inside = c.loop-register-test.true in
    let here = place_at k _ (omega arith) in
    elim c.if-contain.branch [
      | then-contain w ↦ subst (λ s. Expanded (k + 1) c.args.set.bits c.args.changes.mask s.bits) (sym w.all-is)
          (expanded_turn k _ c.args.set.bits c.args.changes.mask c.loop-register.all.bits w.spread-all.result.bits here (omega arith)
          (c.contain.ensures.decides.0 w.if-contain.true) w.spread-all.ensures.bits c.loop-register.invariant)
      | else-contain w ↦ subst (λ s. Expanded (k + 1) c.args.set.bits c.args.changes.mask s.bits) (sym w.all-is)
          (expanded_skip k c.args.set.bits c.args.changes.mask c.loop-register.all.bits
          (λ on. both_ways _ w.if-contain.false (c.contain.ensures.decides.1 (subst (λ p. bit c.args.changes.mask p ≡ 1) (sym here) on))) c.loop-register.invariant)
    ]

pub returns : goal.returns
returns c =
    let e : c.loop-register.register-index ≡ 6 = omega arith in
    let P : ℕ → Type 0 = λ i. Expanded i c.args.set.bits c.args.changes.mask c.loop-register.all.bits in
    record { members = expanded_all c.args.set.bits c.args.changes.mask c.loop-register.all.bits (subst P e c.loop-register.invariant) }
