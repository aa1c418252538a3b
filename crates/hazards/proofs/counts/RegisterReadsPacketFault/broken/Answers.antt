use Rattle.std.proofs.Common.{ℕ, ◌<◌, ◌↔◌, IsTrue, get_or, None, rules}
use Rattle.std.proofs.iter.runs.Made.{chains}
use Rattle.std.specs.List.{Any}
use Rattle.admission.specs.Operands.{read_places}
use Rattle.hazards.specs.Counts.{ExcessAt}
use Rattle.hazards.proofs.Finding.{excess_any}
use Rattle.hazards.proofs.counts.RegisterReadsPacketFault.broken.Goals as goal

pub returns : goal.returns
returns c =
    let xs = c.args.packet.now in
    let some : IsTrue c.any.result ↔ Any (λ x. (j : ℕ) × (j < 6) × ExcessAt xs (get_or (read_places x) j None)) xs = search (rules, chains) in
    let (there, back) = excess_any xs in
    (λ t. there (some.0 t), λ e. some.1 (back e))
