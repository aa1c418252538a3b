use Rattle.std.proofs.Common.{arith}
use Rattle.runs.proofs.Sets.{bit-bit_and}
use Rattle.runs.proofs.valuations.Valuations.common.Goals as goal

pub returns : goal.returns
returns c = record {
  members = λ v.
      let e = bit-bit_and c.args.self.bits c.args.other.bits v in
      (λ h. (omega arith, omega arith), λ h. omega (arith, h.0, h.1));
}
