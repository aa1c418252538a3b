use Rattle.std.proofs.lemmas.Iterator.{YieldsList-from_slice, cases_from_any}
use Rattle.std.proofs.Common.{◌+◌, rules}
use borrow.Author.Tests.{tests}
use Rattle.flight.specs.declared.issued.InFlight.{InFlight}
use Rattle.flight.specs.Issues.{Settles}
use Rattle.flight.proofs.Settling.{decided_by_any}
use Rattle.flight.proofs.stall.some_settles.Goals as goal

pub returns : goal.returns
returns c =
    let P : InFlight → Type 0 = λ e. Settles c.args.landing.register (c.args.landing.cycle + 1) e.issued in
    let some = cases_from_any _ _ c.any.result P (λ e. P e → ⊥) c.any.ensures.ran (YieldsList-from_slice c.args.entries.now cc) (λ x q k. search (rules, tests)) (λ x q k. search (rules, tests)) in
    record { decides = decided_by_any P c.args.entries.now c.any.result some }
