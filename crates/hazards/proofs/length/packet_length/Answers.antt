use Rattle.std.proofs.Common.{◌∙◌, max, rules}
use Rattle.std.proofs.lemmas.Iterator.{YieldsList-from_slice}
use Rattle.std.proofs.lemmas.Iterator.Consumers.{fold_from_yields_List}
use Rattle.hazards.specs.Lengths.{nop_cycles}
use Rattle.hazards.proofs.Longest.{longest_fold}
use Rattle.hazards.proofs.length.packet_length.Goals as goal

pub returns : goal.returns
returns c =
    let e = fold_from_yields_List _ (λ m x. max m (nop_cycles x)) 1 c.fold.result c.fold.ensures.ran (YieldsList-from_slice c.args.packet.now cc) (λ a x b q h. search rules) in
    record { value = e ∙ longest_fold c.args.packet.now }
