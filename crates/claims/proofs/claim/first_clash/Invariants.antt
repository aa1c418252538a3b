use Rattle.claims.specs.Claims.{FreeFrom}
use Rattle.claims.proofs.claim.first_clash.Given as goal

abbrev pub invariant-loop-later : goal.invariant-loop-later
invariant-loop-later g l = FreeFrom g.C.Claim.clash l.claims l.from l.later
