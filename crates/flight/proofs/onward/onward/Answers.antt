use Rattle.std.proofs.Common.{◌≤◌, [], ◌∷◌, ◌++◌, length, sym, ap, ◌∙◌, subst, arith}
use Rattle.std.proofs.ByRecursion.{All-get_or}
use Rattle.std.proofs.lemmas.List.{take_all}
use Rattle.std.specs.List.{AllByRecursion as All}
use Rattle.flight.specs.Kept.{Performed}
use Rattle.flight.proofs.Stepping.{goes_on, is_left, all_added}
use Rattle.flight.proofs.onward.onward.Goals as goal
use Rattle.flight.proofs.onward.onward.Goals.{then-lives, else-lives}

pub loop-entry-preserved : goal.loop-entry-preserved
loop-entry-preserved c =
    let es = c.args.entries.now in
    let n = c.loop-entry.entry-index in
    let h = c.loop-entry-test.true in
    let before = c.loop-entry.list in
    let after = c.if-lives.list in
    elim c.if-lives.branch [
      | then-lives w ↦
          let pushed = w.list-is ∙ w.push.ensures.entries in (
            goes_on c.args.cycle 40 es n _ w.stepped.result before after h (sym c.lives.ensures.value ∙ w.if-lives.true) w.stepped.ensures.issued pushed c.loop-entry.invariant.0,
            λ start past xs masks low held.
                all_added (Performed c.args.lawful start (past ++ xs ∷ [])) 40 before after w.stepped.result pushed (c.loop-entry.invariant.1 start past xs masks low held)
                (w.stepped.ensures.performed start past xs masks (All-get_or (λ e. e.issued.place.packet ≤ length past) es n _ h low) (All-get_or (Performed c.args.lawful start past) es n _ h held)),
          )
      | else-lives w ↦ (
        ap Rattle.flight.proofs.Stepping.issues w.list-is ∙ is_left c.args.cycle 40 es n _ before h (sym c.lives.ensures.value ∙ w.if-lives.false) c.loop-entry.invariant.0,
        λ start past xs masks low held.
            subst (All (Performed c.args.lawful start (past ++ xs ∷ []))) (sym w.list-is) (c.loop-entry.invariant.1 start past xs masks low held),
      )
    ]

pub returns : goal.returns
returns c =
    let whole = take_all c.loop-entry.entry-index c.args.entries.now (omega arith) in
    record {
      issued = c.loop-entry.invariant.0 ∙ ap (λ l. lib.ListN.take 40 (Rattle.flight.specs.Issues.kept c.args.cycle (Rattle.flight.proofs.Stepping.issues l))) whole;
      performed = c.loop-entry.invariant.1;
    }
