use Rattle.std.proofs.Common.{◌≡◌, ◌*◌, ◌%◌, ◌^◌, sym, ap, ◌∙◌}
use Rattle.isa.specs.Bits.{bit}
use Rattle.runs.specs.Valuations.{place}
use Rattle.runs.proofs.Sets.{one_bit, place_lt}
use Rattle.runs.proofs.valuations.Changes.of.Goals as goal

pub returns : goal.returns
returns c =
    let r = c.args.register in
    record {
      members = λ i hi.
          let same : bit (1 * 2 ^ c.place.result % 256) i ≡ bit (1 * 2 ^ place r % 256) i = ap (λ p. bit (1 * 2 ^ p % 256) i) c.place.ensures.value in
          let (there, back) = one_bit (place r) i (place_lt r) hi in
          (λ h. there (sym same ∙ h), λ e. same ∙ back e);
    }
