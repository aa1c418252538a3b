use Rattle.std.proofs.Common.{Ok, Err, sym, ◌∙◌, rules}
use Rattle.std.proofs.lemmas.List.Sorted.{answers_always}
use Rattle.rowfile.specs.Entries.{operation}
use Rattle.rowfile.proofs.Lookups.{searched}
use Rattle.rowfile.proofs.file.RowFileRepertoire.row.Goals as goal

-- the closure gives an entry's number
pub returns-in-Ok : goal.returns-in-Ok
returns-in-Ok c =
    let by_key = c.in-Ok.ensures.position operation (answers_always _ _ _ (λ f a r g called. search rules)) in
    c.read_row.ensures.value ∙ sym (searched _ c.args.self.now.rising c.args.operation (Ok _) c.in-Ok.ensures.bound by_key)

pub returns-in-Err : goal.returns-in-Err
returns-in-Err c =
    let by_key = c.in-Err.ensures.position operation (answers_always _ _ _ (λ f a r g called. search rules)) in
    sym (searched _ c.args.self.now.rising c.args.operation (Err _) c.in-Err.ensures.bound by_key)
