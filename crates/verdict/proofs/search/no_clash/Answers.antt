use Rattle.std.proofs.Common.{List, length, refl, ◌∙◌, subst, rules}
use Rattle.claims.specs.Claims.{FreeFrom, FirstClash}
use Rattle.verdict.proofs.Claiming.{free_of, first_of}
use Rattle.verdict.proofs.search.no_clash.Goals as goal

pub returns-in-Some : goal.returns-in-Some
returns-in-Some g c =
    let p = c.in-Some.clash in
    let theirs = c.as_slice.ensures.entries ∙ c.claims_of-claims.ensures.claims in
    let (later, at_later, is_later) = c.place_at.ensures.value in
    let (earlier, at_earlier, is_earlier) = c.place_at-in-Some.ensures.value in
    record {
      cases = record {
        reason = refl;
        first = p.earlier;
        second = p.later;
        clashing = first_of g.C.EntryClaim.claimed g.C.Claim.clash c.args.entries.now c.args.from p.earlier p.later
            (subst (λ (cs : List _). FirstClash g.C.Claim.clash cs c.args.from p.earlier p.later) theirs c.in-Some.ensures.cases);
        one = earlier;
        other = later;
        stands = search rules;
        stands_later = search rules;
        earlier = is_earlier;
        later = is_later;
      };
    }

pub returns-in-None : goal.returns-in-None
returns-in-None g c =
    let theirs = c.as_slice.ensures.entries ∙ c.claims_of-claims.ensures.claims in
    record {
      cases = free_of g.C.EntryClaim.claimed g.C.Claim.clash c.args.entries.now c.args.from
          (subst (λ (cs : List _). FreeFrom g.C.Claim.clash cs c.args.from (length cs)) theirs c.in-None.ensures.cases);
    }
