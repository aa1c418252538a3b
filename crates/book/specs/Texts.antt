-- How answers are printed. Refusals are printed by constraints' Texts.
use Rattle.std.specs.Prelude.{ℕ, cond, List, ◌++◌, codes, decimal}
use Rattle.constraints.specs.declared.fault.Accepted.{Accepted}
use Rattle.book.specs.declared.calls.Answer.{Answer}
use Rattle.book.specs.declared.calls.Answer.TheVariants.{Open, Accepted as Passed, Totals as Told, Closed}
use Rattle.book.specs.declared.calls.Totals.{Totals}

-- `packets P cycles C stalls S`
abbrev pub totals_text : Totals → List ℕ
totals_text t = codes "packets " ++ (decimal t.packets ++ (codes " cycles " ++ (decimal t.cycles ++ (codes " stalls " ++ decimal t.stalls))))

-- `accepted issue I length L stall S`, S 1 where the packet stalls and else 0
abbrev pub accepted_text : Accepted → List ℕ
accepted_text a = codes "accepted issue " ++ (decimal a.issue ++ (codes " length " ++ (decimal a.length ++ (codes " stall " ++ decimal (cond a.stall 1 0)))))

-- the line of an answer
abbrev pub answer_text : Answer → List ℕ
answer_text (Open n) = codes "open " ++ decimal n
answer_text (Passed a) = accepted_text a
answer_text (Told t) = codes "totals " ++ totals_text t
answer_text (Closed t) = codes "closed " ++ totals_text t
