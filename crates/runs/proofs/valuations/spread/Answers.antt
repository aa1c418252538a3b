use Rattle.std.proofs.Common.{◌≡◌, ◌*◌, ◌%◌, ◌^◌, arith}
use Rattle.std.proofs.lemmas.Nat.{one_shl}
use Rattle.runs.specs.Valuations.{place}
use Rattle.runs.proofs.Sets.{spread_at, place_lt}
use Rattle.runs.proofs.valuations.spread.Goals as goal

pub returns : goal.returns
returns c = record {
  bits = λ v hv.
      let same = c.place-place.ensures.value in
      let e : (1 * 2 ^ place c.args.register) % 2 ^ 32 ≡ 2 ^ place c.args.register = one_shl (place c.args.register) 32 (omega (arith, place_lt c.args.register)) in
      rw (same, e) (spread_at c.args.set.bits (place c.args.register) v (place_lt c.args.register) hv);
}
