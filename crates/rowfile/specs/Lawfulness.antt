-- The proof that every row of a row file keeps the rule. A ghost member cites it, so it stands here; a reader need not.
use Rattle.std.specs.Prelude.{◌≡◌, ℕ, Bool, true, false, cond, List, [], ◌∷◌, Some, None, Option, ◌==◌, nat_lt}
use Rattle.std.proofs.Common.{subst}
use Rattle.std.proofs.lemmas.Option.{none-some, cond_some}
use Rattle.isa.specs.declared.row.Row.{Row}
use Rattle.isa.specs.Rows.{keeps_rule, Lawful}
use Rattle.rowfile.specs.Entries.{operation, spelled_row, lawful_row, row_of}
use Rattle.rowfile.specs.Files.{entries_map}

lawful_row_lem : (w : Row) (o : Option Row) → lawful_row o ≡ Some w → keeps_rule w ≡ true
lawful_row_lem w None e = absurd (none-some w e)
lawful_row_lem w (Some x) e = let (k, same) = cond_some (keeps_rule x) x w e in subst (λ y. keeps_rule y ≡ true) same k

-- of two tests in turn
chosen : (w : Row) (b c : Bool) (x y : Option Row) → (x ≡ Some w → keeps_rule w ≡ true) → (y ≡ Some w → keeps_rule w ≡ true) → cond b x (cond c y None) ≡ Some w → keeps_rule w ≡ true
chosen w true c x y f g e = f e
chosen w false true x y f g e = g e
chosen w false false x y f g e = absurd (none-some w e)

pub entries_lawful : (es : List (List ℕ)) → Lawful (entries_map es)
entries_lawful [] n w e = absurd (none-some w e)
entries_lawful (b ∷ es) n w e = chosen w (nat_lt (operation b) n) (operation b == n) (entries_map es n) (row_of b) (entries_lawful es n w) (lawful_row_lem w (spelled_row b)) e
