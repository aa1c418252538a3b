use Rattle.std.proofs.Common.{◌≡◌, ◌<◌, true, sum_by}
use borrow.Author.Tests.{both_ways}
use Rattle.isa.specs.declared.unit.Side.{Side}
use Rattle.isa.specs.declared.unit.Side.TheVariants.{A, B}
use Rattle.hazards.specs.Counts.{cross_use}
use Rattle.hazards.proofs.counts.CrossPathUsesPacketFault.broken.Goals as goal

pub returns-else-over : goal.returns-else-over
returns-else-over c = (λ t. (B, c.over-else-over.ensures.decides.0 t), λ (s, h). by_side s h)
  where
    by_side : (s : Side) → 2 < sum_by (cross_use s) c.args.packet.now → c.over-else-over.result ≡ true
    by_side A h = absurd (both_ways _ c.if-over.false (c.over.ensures.decides.1 h))
    by_side B h = c.over-else-over.ensures.decides.1 h
