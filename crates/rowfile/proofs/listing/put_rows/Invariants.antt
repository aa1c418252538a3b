use Rattle.std.proofs.Common.{◌*◌, ◌≤◌, length, take}
use Rattle.rowfile.specs.Listings.{Adds, entry_lines}
use Rattle.rowfile.proofs.listing.put_rows.Given as goal

abbrev pub invariant-loop-entry : goal.invariant-loop-entry
invariant-loop-entry l = Adds l.initial.out l.out (entry_lines (take l.entry-index l.entries)) × (length (entry_lines (take l.entry-index l.entries)) ≤ 96 * l.entry-index)
