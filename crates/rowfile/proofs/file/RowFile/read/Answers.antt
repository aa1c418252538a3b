use Rattle.std.proofs.Common.{is_some, sym, refl, ap, subst, inr, arith}
use Rattle.std.proofs.lemmas.Option.{MatchOption-at_some}
use Rattle.rowfile.specs.Files.{entries_map, Rising, MapOfFile}
use Rattle.rowfile.proofs.Layouts.{well_formed, readable_entries, rising_entries}
use Rattle.rowfile.proofs.Listings.{map_of_file}
use Rattle.rowfile.proofs.file.RowFile.read.Goals.{then-not-all_readable-via-then-not-all_readable, then-not-all_readable-via-else-not-all_readable+then-not-all_rising}
use Rattle.rowfile.proofs.file.RowFile.read.Goals as goal

-- an entry has no row, or the numbers do not rise
pub returns-then-not-all_readable-clause-cases : goal.returns-then-not-all_readable-clause-cases
returns-then-not-all_readable-clause-cases c =
    let same = MatchOption-at_some _ _ _ c.in_ok-entries.ensures.ok_part c.laid_out.ensures.entries in
    inr (
      refl,
      (omega arith, omega arith),
      λ good. elim c.then-not-all_readable.branch [
        | then-not-all_readable-via-then-not-all_readable w ↦ grind (arith, w.if-not-all_readable.ensures.1 (readable_entries _ _ same good))
        | then-not-all_readable-via-else-not-all_readable+then-not-all_rising w ↦ grind (arith, w.if-not-all_rising.ensures.1 (rising_entries _ _ same good))
      ],
    )

pub returns-clause-cases : goal.returns-clause-cases
returns-clause-cases c =
    let same = MatchOption-at_some _ _ _ c.in_ok-entries.ensures.ok_part c.laid_out.ensures.entries in
    let laid = c.laid_out.ensures.laid.0 (ap is_some c.in_ok-entries.ensures.ok_part) in
    ((omega arith, omega arith), well_formed _ _ same laid (c.if-not-all_readable.ensures.0 refl) (c.if-not-all_rising.ensures.0 refl), same)

pub returns-clause-map : goal.returns-clause-map
returns-clause-map c =
    let same = MatchOption-at_some _ _ _ c.in_ok-entries.ensures.ok_part c.laid_out.ensures.entries in
    subst (λ es. MapOfFile c.args.bytes.now (entries_map es)) (sym same) (map_of_file c.args.bytes.now (subst Rising same (c.if-not-all_rising.ensures.0 refl)))
