use Rattle.std.proofs.Common.{◌≡◌, map, take}
use Rattle.verdict.proofs.search.claims_of.Given as goal

abbrev pub invariant-loop-flying : goal.invariant-loop-flying
invariant-loop-flying g l = l.claims ≡ map g.C.EntryClaim.claimed (take l.flying-index l.flying-items)
