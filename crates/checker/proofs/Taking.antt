-- A record that is turned away, is open, or completes its packet. Assumes nothing.
use Rattle.std.proofs.Common.{◌≡◌, ℕ, ◌<◌, ◌≤◌, true, false, ltb, List, [], ◌∷◌, ◌++◌, length, take, Some, None, Ok, Err, Option, Result, sym, refl, ap, ◌∙◌, inl, inr, ⊎_elim, arith}
use Rattle.std.proofs.lemmas.List.{length_push, take_all}
use Rattle.std.proofs.lemmas.Bool.{cases_eq, both_ways, lt-ltb, le-ltb, cond-true, cond-false}
use Rattle.isa.specs.declared.record.Record.{Record}
use Rattle.isa.specs.declared.row.Row.{Row}
use Rattle.isa.specs.Refusals.{number}
use Rattle.admission.specs.declared.instruction.Instruction.{Instruction}
use Rattle.admission.specs.Instructions.{Means}
use Rattle.admission.specs.Refusals.{RefusedBy, Least}
use Rattle.constraints.specs.declared.fault.Fault.{Fault}
use Rattle.verdict.proofs.Verdicts.{breaks_low}
use Rattle.book.specs.declared.calls.Answer.{Answer}
use Rattle.book.specs.declared.calls.Answer.TheVariants.{Open, Accepted, Totals as Told, Closed as Ended}
use Rattle.book.specs.Books.{Rules, Book, more, meant, with, Untaken, Taken, Standing, Turned, SaysTake, after_take, holding}
use Rattle.checker.specs.declared.checker.State.{State}
use Rattle.checker.specs.declared.checker.State.TheVariants.{Idle, Gathering, Closed}
use Rattle.checker.specs.declared.checker.Checker.{Checker}
use Rattle.checker.specs.Stands.{Fits, Unchanged, Verdict, after_packet}

-- a record that does not fit its row is refused by 3 to 8
fit_bounds : (o : Option Row) (r : Record) (n : ℕ) → RefusedBy o r n → (3 ≤ n) × (n ≤ 8)
fit_bounds None r n e = (omega arith, omega arith)
fit_bounds (Some w) r n by =
    ⊎_elim (λ (e, _). (omega arith, omega arith)) (⊎_elim (λ (e, _). (omega arith, omega arith)) (⊎_elim (λ (e, _). (omega arith, omega arith)) (⊎_elim (λ (e, _). (omega arith, omega arith)) (λ (e, _). (omega arith, omega arith))))) by

-- an admitted record means one instruction
pub meant_one : (o : Option Row) (r : Record) (i : Instruction) → Means o r i → meant o r ≡ i ∷ []
meant_one None r i m = absurd m
meant_one (Some w) r i m = ap (λ (x : Instruction). x ∷ []) (sym m)

-- there is room for a packet that is begun
pub room_of : (s : State) (b : Book) → Fits s b → b.closed ≡ false → (length b.accepted ≡ 512 → b.held ≡ [] → ⊥) → length b.accepted ≤ 512 → length b.accepted < 512
room_of Idle b (_, none) going full le = ⊎_elim (λ e. absurd (full e none)) (λ apart. omega arith) (cases_eq (length b.accepted) 512)
room_of Gathering b (_, _, lt) going full le = lt
room_of Closed b (shut, _) going full le = absurd (both_ways b.closed going shut)

module _ (k : Rules) (b : Book) (r : Record) (going : b.closed ≡ false) (full : length b.accepted ≡ 512 → b.held ≡ [] → ⊥) where
  -- refused by what it is itself
  pub turned_by : (f : Fault) → Least (RefusedBy (k.rows r.operation) r) (number f.refusal) → Standing b f → Turned b (Untaken k b r) f
  turned_by f (broken, least) standing = (
    (
      inr (inr (inl broken)),
      λ m lt. ⊎_elim (λ (_, shut). both_ways b.closed going shut) (⊎_elim (λ (_, many, none). full many none)
          (⊎_elim (λ by. least m lt by) (λ (e, _, _). let small = fit_bounds (k.rows r.operation) r (number f.refusal) broken in omega arith))),
    ),
    standing,
  )

  -- a refusal of 1 to 10 leaves the book as it was
  pub after_turned : (f : Fault) → number f.refusal ≤ 10 → after_take k b r (Err f) ≡ b
  after_turned f h = cond-false (ltb 10 (number f.refusal)) (holding b []) b (le-ltb 10 (number f.refusal) h)

  pub fit_small : (f : Fault) → Least (RefusedBy (k.rows r.operation) r) (number f.refusal) → number f.refusal ≤ 10
  fit_small f (broken, _) = let small = fit_bounds (k.rows r.operation) r (number f.refusal) broken in omega arith

  -- nothing stands against it
  pub taken : ((n : ℕ) → RefusedBy (k.rows r.operation) r n → ⊥) → (length b.held ≡ 7 → more r ≡ true → ⊥) → Taken k b r
  taken fits room n = ⊎_elim (λ (_, shut). both_ways b.closed going shut) (⊎_elim (λ (_, many, none). full many none) (⊎_elim (fits n) (λ (_, seven, p). room seven p)))

  -- the verdict on its packet is what the book says
  pub says_verdict : (a : Result Answer Fault) → Taken k b r → more r ≡ false → Verdict k.lawful b (with k b r) a → SaysTake k b r a
  says_verdict (Err f) t p v = inr (t, p, v)
  says_verdict (Ok (Open n)) t p v = absurd v
  says_verdict (Ok (Accepted a)) t p v = (t, p, v)
  says_verdict (Ok (Told t')) t p v = absurd v
  says_verdict (Ok (Ended t')) t p v = absurd v

  pub after_verdict : (a : Result Answer Fault) → Verdict k.lawful b (with k b r) a → after_packet b (with k b r) a ≡ after_take k b r a
  after_verdict (Err f) v =
      let low = breaks_low k.lawful k.lawful b.accepted (with k b r) (number f.refusal) v.least.0 in
      sym (cond-true (ltb 10 (number f.refusal)) (holding b []) b (lt-ltb 10 (number f.refusal) (omega arith)))
  after_verdict (Ok (Open n)) v = absurd v
  after_verdict (Ok (Accepted a)) v = refl
  after_verdict (Ok (Told t)) v = absurd v
  after_verdict (Ok (Ended t)) v = absurd v

  -- a packet is refused by 11 and above
  pub no_refusal : {R : Type 0} (before now : Checker R) (a : Result Answer Fault) → Verdict k.lawful b (with k b r) a → Unchanged before now a
  no_refusal before now (Err f) v = λ small. let low = breaks_low k.lawful k.lawful b.accepted (with k b r) (number f.refusal) v.least.0 in absurd (omega arith)
  no_refusal before now (Ok a) v = tt

-- the open records with one more
pub pushed : (xs : List Instruction) (i : Instruction) (list after : List Instruction) → length xs ≤ 7 → list ≡ xs → after ≡ take 8 (list ++ i ∷ []) → after ≡ xs ++ i ∷ []
pushed xs i list after short same e = e ∙ ap (λ l. take 8 (l ++ i ∷ [])) same ∙ take_all 8 (xs ++ i ∷ []) (omega (arith, length_push xs i))
