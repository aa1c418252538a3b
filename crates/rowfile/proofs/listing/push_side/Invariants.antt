use Rattle.std.proofs.Common.{◌≡◌, ◌+◌, ◌*◌, ◌≤◌, ◌++◌, length, take}
use Rattle.std.specs.List.{flat_map}
use Rattle.rowfile.specs.Listings.{unit_text}
use Rattle.rowfile.proofs.listing.push_side.Given as goal

abbrev pub invariant-loop-kind : goal.invariant-loop-kind
invariant-loop-kind l = (l.line.bytes ≡ l.initial.line.bytes ++ flat_map (λ k. unit_text l.units k l.side) (take l.kind-index l.kind-items)) × (length l.line.bytes ≤ length l.initial.line.bytes + 4 * l.kind-index)
