-- The proofs that no packet without instructions has a fault. Ghost members cite them, so they stand here; a reader need not.
use Rattle.std.specs.Prelude.{[]}
use Rattle.std.proofs.Common.{arith}
use Rattle.hazards.specs.Counts.{CrossExcess, ReadExcess}

pub no_cross_excess : CrossExcess [] → ⊥
no_cross_excess (s, h) = omega arith

pub no_read_excess : ReadExcess [] → ⊥
no_read_excess (r, h) = omega arith
