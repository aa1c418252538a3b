-- A lookup among entries whose numbers rise finds exactly the rows that are listed. Assumes nothing.
use Rattle.std.proofs.Common.{ℕ, ◌<◌, List, [], sym, ap, ◌∙◌, subst}
use Rattle.isa.specs.declared.row.Row.{Row}
use Rattle.rowfile.specs.Entries.{operation, row_of}
use Rattle.rowfile.specs.Files.{row_count, entries, entries_map, Rising, Lists, MapOfFile}
use Rattle.rowfile.proofs.Lookups.{Listed, found, present}
use Rattle.rowfile.proofs.Layouts.{length_entries, entry_at}

-- what the entries list, the file lists
there : (bs : List ℕ) (n : ℕ) (w : Row) → Listed (entries bs) n w → Lists bs n w
there bs n w (i, h, a, f) =
    let lt : i < row_count bs = subst (λ k. i < k) (length_entries bs) h in
    let e = entry_at bs i [] lt in
    (i, lt, ap operation (sym e) ∙ a, ap row_of (sym e) ∙ f)

back : (bs : List ℕ) (n : ℕ) (w : Row) → Lists bs n w → Listed (entries bs) n w
back bs n w (i, h, a, f) =
    let e = entry_at bs i [] h in
    (i, subst (λ k. i < k) (sym (length_entries bs)) h, ap operation e ∙ a, ap row_of e ∙ f)

pub map_of_file : (bs : List ℕ) → Rising (entries bs) → MapOfFile bs (entries_map (entries bs))
map_of_file bs r n w = (λ f. there bs n w (found (entries bs) n w f), λ l. let (i, h, a, f) = back bs n w l in present (entries bs) r n i h a ∙ f)
