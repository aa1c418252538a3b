use Rattle.std.proofs.Common.{◌≡◌, ◌+◌, ◌<◌, true, false, List, [], ◌∷◌, ◌++◌, length, sym, refl, ap, ◌∙◌, subst, inl, arith, rules}
use Rattle.std.proofs.lemmas.List.{length_push}
use Rattle.std.proofs.lemmas.Bool.{both_ways}
use Rattle.isa.specs.Refusals.{number}
use Rattle.admission.specs.declared.instruction.Instruction.{Instruction}
use Rattle.admission.specs.Refusals.{RefusedBy, Least}
use Rattle.book.specs.Books.{Rules, more, with}
use Rattle.checker.specs.Stands.{rules_of, Stands}
use Rattle.checker.proofs.Taking.{meant_one, room_of, turned_by, after_turned, fit_small, taken, says_verdict, after_verdict, no_refusal, pushed}
use Rattle.checker.proofs.checker.Checker.add.Goals as goal

pub returns-in-Err-clause-serves : goal.returns-in-Err-clause-serves
returns-in-Err-clause-serves g c =
    let s = c.args.self.now in
    let r = c.args.record in
    let k : Rules = rules_of (g.R.Repertoire.map s.repertoire) s in
    let f = c.refused.result in
    let least : Least (RefusedBy (k.rows r.operation) r) (number f.refusal) =
    subst (λ x. Least (RefusedBy (k.rows r.operation) r) (number x)) (sym c.refused.ensures.reason) c.in-Err.ensures.admits in
    λ b stands going full. (
      inl (turned_by k b r going full f least (c.refused.ensures.standing b stands)),
      subst (Stands s) (sym (after_turned k b r going full f (fit_small k b r going full f least))) stands,
      λ _. refl,
    )

pub returns-then-not-from-clause-serves : goal.returns-then-not-from-clause-serves
returns-then-not-from-clause-serves g c =
    let s = c.args.self.now in
    let r = c.args.record in
    let i = c.in-Ok.instruction in
    let k : Rules = rules_of (g.R.Repertoire.map s.repertoire) s in
    let last : more r ≡ false = search rules in
    λ b stands going full.
    let xs : List Instruction = with k b r in
    let one : xs ≡ b.held ++ i ∷ [] = ap (λ l. b.held ++ l) (meant_one (k.rows r.operation) r i c.in-Ok.ensures.admits.0) in
    let few = s.history.few in
    let many = stands.history.many in
    let room : length b.accepted < 512 = room_of s.state b stands.fits going full (omega arith) in
    let told = c.complete.ensures.verdict b xs (record {
      going = going;
      gathered = pushed b.held i s.gathered c.push.new.self stands.short stands.held c.push.ensures.entries ∙ sym one;
      room = room;
      stalls = stands.stalls;
      calm = stands.calm;
      history = stands.history;
    }) in
    let fine = taken k b r going full c.in-Ok.ensures.admits.1 (λ _ p. both_ways (more r) last p) in
    (says_verdict k b r going full c.complete.result fine last told.0, subst (Stands c.complete.new.self) (after_verdict k b r going full c.complete.result told.0) told.1, no_refusal k b r going full s c.complete.new.self c.complete.result told.0)

pub returns-clause-serves : goal.returns-clause-serves
returns-clause-serves g c =
    let s = c.args.self.now in
    let r = c.args.record in
    let i = c.in-Ok.instruction in
    let k : Rules = rules_of (g.R.Repertoire.map s.repertoire) s in
    let on : more r ≡ true = search rules in
    let lt = c.if-gathered-ge7.false in
    let here = c.len-gathered.ensures.value in
    λ b stands going full.
    let xs : List Instruction = with k b r in
    let one : xs ≡ b.held ++ i ∷ [] = ap (λ l. b.held ++ l) (meant_one (k.rows r.operation) r i c.in-Ok.ensures.admits.0) in
    let few = s.history.few in
    let many = stands.history.many in
    let same = ap length stands.held in
    let long : length xs ≡ length b.held + 1 = ap length one ∙ length_push b.held i in
    let room : length b.accepted < 512 = room_of s.state b stands.fits going full (omega arith) in
    let fine = taken k b r going full c.in-Ok.ensures.admits.1 (λ seven _. omega arith) in (
      (fine, on, omega arith),
      record {
        fits = (going, omega arith, room);
        held = pushed b.held i s.gathered c.push-2.new.self stands.short stands.held c.push-2.ensures.entries ∙ sym one;
        short = omega arith;
        stalls = stands.stalls;
        calm = stands.calm;
        history = stands.history;
      },
      tt,
    )
