use Rattle.std.proofs.Common.{◌≡◌, ◌+◌, take, vec_items, vec_len, vec_capacity}
use Rattle.book.specs.Books.{Book}
use Rattle.checker.specs.Stands.{rules_of, Stands}
use Rattle.checker.specs.Replays.{Performs}
use Rattle.checker.proofs.replay.perform.Given as goal

abbrev pub invariant-loop-call : goal.invariant-loop-call
invariant-loop-call g l =
    ((b : Book) → Stands l.initial.checker b
    → Performs (rules_of (g.R.Repertoire.map l.initial.checker.repertoire) l.initial.checker) b (take l.call-index l.calls) (vec_items l.initial.answers) (vec_items l.answers) l.checker)
    × (l.checker.repertoire ≡ l.initial.checker.repertoire)
    × (l.checker.history.lawful ≡ l.initial.checker.history.lawful)
    × (vec_len l.answers ≡ vec_len l.initial.answers + l.call-index)
    × (vec_capacity l.answers ≡ vec_capacity l.initial.answers)
