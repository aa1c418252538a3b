use Rattle.std.proofs.Common.{Result, refl, sym, subst, arith, MatchResult}
use Rattle.constraints.specs.declared.fault.Accepted.{Accepted}
use Rattle.constraints.specs.declared.fault.Fault.{Fault}
use Rattle.constraints.specs.Faults.{AcceptedAs, RefusedWith}
use Rattle.book.specs.declared.calls.Answer.{Answer}
use Rattle.book.specs.Books.{accepting}
use Rattle.checker.specs.declared.checker.State.TheVariants.{Idle}
use Rattle.checker.specs.Stands.{Keeps, Stands, Verdict, after_packet}
use Rattle.checker.proofs.Completing.{residual}
use Rattle.checker.proofs.checker.Checker.complete.Goals as goal

pub returns-in_err-verdict-clause-verdict : goal.returns-in_err-verdict-clause-verdict
returns-in_err-verdict-clause-verdict g c =
    let f = c.in_err-verdict.field-0.0 in
    let lawful = c.args.self.now.history.lawful in
    let kept = c.judged-verdict.new.self in
    λ b xs complete.
    let now = record kept { state = Idle; gathered = c.clear.new.self } in
    let same = residual c.from_residual.result f c.from_residual.ensures.1 in
    let Told : Result Accepted Fault → Type 0 = λ r. MatchResult r (λ a. AcceptedAs lawful lawful b.accepted xs a × Keeps kept (accepting b xs a)) (λ e. RefusedWith lawful lawful b.accepted xs e × Keeps kept b) in
    let (told, (stalls, calm, history)) = subst Told c.in_err-verdict.was (c.judged-verdict.ensures.verdict b xs complete) in
    subst (λ (r : Result Answer Fault). Verdict lawful b xs r × Stands now (after_packet b xs r)) (sym same)
    (told, record { fits = (complete.going, refl); held = c.clear.ensures.none; short = omega arith; stalls = stalls; calm = calm; history = history })

pub returns-clause-verdict : goal.returns-clause-verdict
returns-clause-verdict g c =
    let lawful = c.args.self.now.history.lawful in
    let kept = c.judged-verdict.new.self in
    λ b xs complete.
    let Told : Result Accepted Fault → Type 0 = λ r. MatchResult r (λ a. AcceptedAs lawful lawful b.accepted xs a × Keeps kept (accepting b xs a)) (λ e. RefusedWith lawful lawful b.accepted xs e × Keeps kept b) in
    let (told, (stalls, calm, history)) = subst Told c.in_ok-verdict.was (c.judged-verdict.ensures.verdict b xs complete) in
    (told, record { fits = (complete.going, refl); held = c.clear.ensures.none; short = omega arith; stalls = stalls; calm = calm; history = history })
