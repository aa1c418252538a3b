use Rattle.std.proofs.Common.{vec_items, rules}
use Rattle.book.specs.Books.{Rules, opened}
use Rattle.decision.proofs.Answering.{answer, answer_says}
use Rattle.checker.specs.Replays.{AnswersFrom}
use Rattle.checker.proofs.Replaying.{only_answers, never_overclaimed, order_free}
use Rattle.checker.proofs.replay.replay.Given.{Over}
use Rattle.checker.proofs.replay.replay.Goals as goal
use Rattle.checker.proofs.replay.replay.Goals.{After-drop-checker}

pub returns-in_err-reserve-clause-some_answer : goal.returns-in_err-reserve-clause-some_answer
returns-in_err-reserve-clause-some_answer g c = λ k b call. (answer k b call, answer_says k b call)

module _ (g : Over) (c : After-drop-checker g) where
  -- the repertoire's rows and the lawful set
  abbrev rules_here : Rules
  rules_here = record { rows = g.R.Repertoire.map c.args.repertoire; lawful = c.args.lawful }

  from : AnswersFrom rules_here (opened c.args.lawful) c.args.calls.now (vec_items c.args.answers.now) (vec_items c.perform.new.answers)
  from = search rules

pub returns-clause-only_answers : goal.returns-clause-only_answers
returns-clause-only_answers g c = only_answers (rules_here g c) _ _ _ (from g c)

pub returns-clause-some_answer : goal.returns-clause-some_answer
returns-clause-some_answer g c = λ k b call. (answer k b call, answer_says k b call)

pub returns-clause-never_overclaimed : goal.returns-clause-never_overclaimed
returns-clause-never_overclaimed g c = never_overclaimed (rules_here g c) _ _ _ (from g c)

pub returns-clause-slot_order_free : goal.returns-clause-slot_order_free
returns-clause-slot_order_free g c = order_free (rules_here g c) _ _ _ (from g c)
