use Rattle.std.proofs.lemmas.Iterator.{YieldsList-from_slice, cases_from_any}
use Rattle.std.proofs.Common.{◌≡◌, ◌+◌, ◌↔◌, IsTrue, subst, arith, rules}
use borrow.Author.Tests.{tests}
use Rattle.flight.specs.Issues.{Waits, SomeWaits}
use Rattle.flight.proofs.Settling.{decided_by_any}
use Rattle.flight.proofs.stall.some_waits.Goals as goal

pub returns : goal.returns
returns c =
    let es = c.args.entries.now in
    let xs = c.args.packet.now in
    let after = c.from-before.result + 1 in
    let P = Waits after es in
    let some = cases_from_any _ _ c.any.result P (λ x. P x → ⊥) c.any.ensures.ran (YieldsList-from_slice xs cc) (λ x q k. search (rules, tests)) (λ x q k. search (rules, tests)) in
    let same : after ≡ c.args.cycle = omega (arith, c.from-before.ensures) in
    record { decides = subst (λ k. IsTrue c.any.result ↔ SomeWaits k es xs) same (decided_by_any P xs c.any.result some) }
