use Rattle.std.proofs.Common.{◌≡◌, ◌+◌, ◌*◌, ◌≤◌, ◌++◌, length, take}
use Rattle.std.specs.List.{flat_map}
use Rattle.rowfile.specs.Listings.{width_text}
use Rattle.rowfile.proofs.listing.push_tail.Given as goal

abbrev pub invariant-loop-width : goal.invariant-loop-width
invariant-loop-width l = (l.line.bytes ≡ l.initial.line.bytes ++ flat_map width_text (take l.width-index l.width-items)) × (length l.line.bytes ≤ length l.initial.line.bytes + 2 * l.width-index)
