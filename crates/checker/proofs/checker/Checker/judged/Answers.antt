use Rattle.std.proofs.Common.{List, [], ◌∷◌, ◌++◌, Result, MatchResult, sym, subst, arith}
use Rattle.std.proofs.lemmas.List.{length_push}
use Rattle.admission.specs.declared.instruction.Instruction.{Instruction}
use Rattle.runs.specs.declared.valuations.Valuations.{Valuations}
use Rattle.constraints.specs.declared.fault.Accepted.{Accepted}
use Rattle.constraints.specs.declared.fault.Fault.{Fault}
use Rattle.constraints.specs.Faults.{AcceptedAs, RefusedWith}
use Rattle.flight.specs.Kept.{StandsFor}
use Rattle.book.specs.Books.{accepting}
use Rattle.checker.specs.Stands.{Keeps}
use Rattle.checker.proofs.Completing.{joins, same_lawful, as_count, one_at_most, residual}
use Rattle.checker.proofs.checker.Checker.judged.Goals as goal

pub returns-in_err-accepted-clause-verdict : goal.returns-in_err-accepted-clause-verdict
returns-in_err-accepted-clause-verdict g c =
    let s = c.args.self.now in
    let h = s.history in
    let f = c.in_err-accepted.field-0.0 in
    λ b xs complete.
    let same = residual c.from_residual.result f c.from_residual.ensures.1 in
    let told = subst (λ (l : List Instruction). RefusedWith h.lawful h.lawful b.accepted l f) complete.gathered (c.in_err-accepted.ensures.verdict h.lawful b.accepted complete.history) in
    subst (λ (r : Result Accepted Fault). MatchResult r (λ a. AcceptedAs h.lawful h.lawful b.accepted xs a × Keeps s (accepting b xs a)) (λ e. RefusedWith h.lawful h.lawful b.accepted xs e × Keeps s b)) (sym same)
    (told, (complete.stalls, complete.calm, complete.history))

pub returns-clause-verdict : goal.returns-clause-verdict
returns-clause-verdict g c =
    let s = c.args.self.now in
    let h = s.history in
    let a = c.in_ok-accepted.accepted in
    let lawful = same_lawful h s.gathered c.accept.new.self c.accept.result c.accept.ensures.cases in
    λ b xs complete.
    let added = c.saturating_add-self.ensures in
    let count = c.from.ensures in
    let one = as_count a.stall in
    let small = one_at_most a.stall in
    let st = complete.stalls in
    let calm = complete.calm in
    let room = complete.room in
    let longer = length_push b.accepted xs in
    let joined = joins h s.gathered c.accept.new.self c.accept.result (let many = complete.history.many in omega arith) c.accept.ensures.cases in (
      subst (λ (l : List Instruction). AcceptedAs h.lawful h.lawful b.accepted l a) complete.gathered (c.in_ok-accepted.ensures.verdict h.lawful b.accepted complete.history),
      (
        omega arith,
        omega arith,
        subst (λ (v : Valuations). StandsFor c.accept.new.self v (b.accepted ++ xs ∷ [])) (sym lawful)
            (subst (λ (l : List Instruction). StandsFor c.accept.new.self h.lawful (b.accepted ++ l ∷ [])) complete.gathered (joined.stands h.lawful b.accepted complete.history)),
      ),
    )
