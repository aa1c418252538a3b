use Rattle.std.proofs.Common.{◌≡◌, take}
use Rattle.bounded.proofs.list.Bounded.from_slice.Given as goal

abbrev pub invariant-loop-entry : goal.invariant-loop-entry
invariant-loop-entry g l = l.list ≡ take g.row.N (take l.entry-index l.entries)
