use Rattle.std.proofs.Common.{length, Result, Ok, Err, IsOk, OnOk, MatchResult, ap, ◌∙◌, arith, rules}
use Rattle.rowfile.specs.declared.listing.TheConstants.{LISTING_BYTES}
use Rattle.rowfile.specs.Listings.{Room}
use Rattle.rowfile.proofs.Layouts.{length_entries}
use Rattle.rowfile.proofs.listing.list_rows.Goals as goal

-- what is known of a call that succeeds
at_ok : {X E P Q : Type 0} (R : Type 0) (r : Result X E) → IsOk r → OnOk r P → (P → Q) → MatchResult r (λ _. Q) (λ _. R)
at_ok R (Ok x) ok known more = more known
at_ok R (Err e) ok known more = absurd (grind (arith, ok))

-- a file has 256 entries at most
succeeds : (c : goal.After-put_rows) → IsOk c.put_rows.result
succeeds c =
    let room : Room c.reserve.new.self LISTING_BYTES = search rules in
    let told = c.in-Ok.ensures.cases in
    c.put_rows.ensures.succeeds (omega (arith, room, ap length told.2 ∙ length_entries c.args.bytes.now, told.1.laid.1))

pub returns-in-Ok-clause-text : goal.returns-in-Ok-clause-text
returns-in-Ok-clause-text c =
    at_ok _ _ (succeeds c) c.put_rows.ensures.adds (λ adds. search rules)

pub returns-in-Ok-clause-succeeds : goal.returns-in-Ok-clause-succeeds
returns-in-Ok-clause-succeeds c _ = succeeds c
