use Rattle.std.proofs.Common.{rules, nat_lt}
use Rattle.std.proofs.lemmas.List.Sorted.{answers_always}
use Rattle.rowfile.specs.Entries.{operation}
use Rattle.rowfile.proofs.Lookups.{rising_answer}
use Rattle.rowfile.proofs.file.all_rising.Goals as goal

-- the closure compares the numbers of two neighbours
pub returns : goal.returns
returns c = rising_answer _ _ (c.is_sorted_by.ensures.cases (λ d e. nat_lt (operation d) (operation e)) (answers_always _ _ _ (λ f a r g called. search rules)))
