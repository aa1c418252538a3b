-- The accepted packets broke no constraint when they were judged, and so break none together. Assumes nothing.
use Rattle.std.proofs.Common.{◌≡◌, ℕ, ◌-◌, ◌≤◌, Bool, true, false, cond, ltb, List, [], ◌∷◌, ◌++◌, length, take, Some, Ok, Err, Result, sym, refl, ap, ◌∙◌, subst, inl, inr, ⊎_elim, arith}
use Rattle.std.proofs.lemmas.List.{length-take, take-append-le, take_at}
use Rattle.std.proofs.lemmas.Bool.{cases_lt}
use Rattle.std.specs.List.{slice_get}
use Rattle.isa.specs.Refusals.{number}
use Rattle.admission.specs.declared.instruction.Instruction.{Instruction}
use Rattle.runs.specs.declared.valuations.Valuations.{Valuations}
use Rattle.runs.specs.Valuations.{Meets}
use Rattle.runs.proofs.Sets.{some_bit}
use Rattle.claims.specs.Landings.{port_claim, SamePort}
use Rattle.claims.specs.Mutual.{same_port_mutual}
use Rattle.constraints.specs.declared.fault.Fault.{Fault}
use Rattle.constraints.specs.Schedules.{issue, Stands, May}
use Rattle.constraints.specs.Constraints.{WriteTogether, Beside, Clash, Breaks}
use Rattle.constraints.proofs.Moving.{at_inside, at_one, at_push_cases}
use Rattle.constraints.proofs.Reordering.{stands_before, stands_last, stands_inside}
use Rattle.book.specs.declared.calls.Call.{Call}
use Rattle.book.specs.declared.calls.Call.TheVariants.{Take, Totals as AskTotals, Close}
use Rattle.book.specs.declared.calls.Answer.{Answer}
use Rattle.book.specs.declared.calls.Answer.TheVariants.{Open, Accepted, Totals as Told, Closed}
use Rattle.book.specs.Books.{Rules, Book, Says, after, SaysAll, after_all, opened, holding}
use Rattle.soundness.specs.Sound.{Overclaims, RunOf, AcceptedSound, SomeRun}
use Rattle.soundness.proofs.Prefixes.{issue_take, stands_take, run_take}

-- each packet broke no constraint behind those before it
abbrev Checked : Valuations → List (List Instruction) → Type 0
Checked lawful ps = (k : ℕ) (p : List Instruction) → slice_get ps k ≡ Some p → (n : ℕ) → Breaks lawful lawful (take k ps) p n → ⊥

checked_push : (lawful : Valuations) (ps : List (List Instruction)) (xs : List Instruction) → Checked lawful ps → ((n : ℕ) → Breaks lawful lawful ps xs n → ⊥) → Checked lawful (ps ++ xs ∷ [])
checked_push lawful ps xs before here k p e n b =
    ⊎_elim
    (λ old. let lt = at_inside ps k p old in before k p old n (subst (λ (l : List (List Instruction)). Breaks lawful lawful l p n) (take-append-le k ps (xs ∷ []) (omega arith)) b))
    (λ (last, same). here n
    (subst (λ (q : List Instruction). Breaks lawful lawful ps q n) (sym same)
    (subst (λ (l : List (List Instruction)). Breaks lawful lawful l p n) (ap (λ (j : ℕ). take j (ps ++ xs ∷ [])) last ∙ take_at ps (xs ∷ []) (length ps) refl) b)))
    (at_push_cases ps xs k p e)

-- a call accepts at most a packet that breaks nothing
dropped : (c : Bool) (b : Book) → (cond c (holding b []) b).accepted ≡ b.accepted
dropped true b = refl
dropped false b = refl

checked_call : (k : Rules) (b : Book) (c : Call) (v : Result Answer Fault) → Says k b c v → Checked k.lawful b.accepted → Checked k.lawful (after k b c v).accepted
checked_call k b (Take r) (Err f) s h = subst (Checked k.lawful) (sym (dropped (ltb 10 (number f.refusal)) b)) h
checked_call k b (Take r) (Ok (Open n)) s h = h
checked_call k b (Take r) (Ok (Accepted a)) (_, _, s) h = checked_push k.lawful b.accepted _ h s.sound
checked_call k b (Take r) (Ok (Told t)) s h = absurd s
checked_call k b (Take r) (Ok (Closed t)) s h = absurd s
checked_call k b AskTotals v s h = h
checked_call k b Close (Err f) s h = h
checked_call k b Close (Ok a) s h = h

checked_all : (k : Rules) (b : Book) (cs : List Call) (vs : List (Result Answer Fault)) → SaysAll k b cs vs → Checked k.lawful b.accepted → Checked k.lawful (after_all k b cs vs).accepted
checked_all k b [] [] s h = h
checked_all k b [] (v ∷ vs) s h = absurd s
checked_all k b (c ∷ cs) [] s h = absurd s
checked_all k b (c ∷ cs) (v ∷ vs) (s, rest) h = checked_all k (after k b c v) cs vs rest (checked_call k b c v s h)

module _ (lawful : Valuations) (ps : List (List Instruction)) (checked : Checked lawful ps) where
  two_breaks : (l : ℕ) (p : List Instruction) (n s t : ℕ) (x y : Instruction) → slice_get p s ≡ Some x → slice_get p t ≡ Some y → (s ≡ t → ⊥) → Beside n x y → Breaks lawful lawful (take l ps) p n
  two_breaks l p n s t x y es et apart beside = inl (length (take l ps), s, t, (x, y, stands_last (take l ps) p s x es, et, λ _ e. apart e, inl (refl, beside)))

  claims_kept : (k : ℕ) (p : List Instruction) → slice_get ps k ≡ Some p → Overclaims p → ⊥
  claims_kept k p e =
      ⊎_elim
      (λ (s, t, x, y, es, et, apart, rel).
      ⊎_elim (λ u. checked k p e 11 (two_breaks k p 11 s t x y es et apart (inl (refl, u))))
      (⊎_elim (λ u. checked k p e 13 (two_breaks k p 13 s t x y es et apart (inr (inr (inl (refl, u))))))
      (⊎_elim (λ u. checked k p e 14 (two_breaks k p 14 s t x y es et apart (inr (inr (inr (inl (refl, u)))))))
      (λ u. checked k p e 15 (two_breaks k p 15 s t x y es et apart (inr (inr (inr (inr (refl, u)))))))))
      rel)
      (⊎_elim (λ u. checked k p e 16 (inr (inl (refl, u)))) (λ u. checked k p e 17 (inr (inr (refl, u)))))

  -- two places, the first no later than the second, and a clash at them
  clash_at : (n k s l t : ℕ) (x y : Instruction) → k ≤ l → Stands ps k s x → Stands ps l t y → (k ≡ l → s ≡ t → ⊥) → Clash lawful lawful (take l ps) n k x y → ⊥
  clash_at n k s l t x y le st-x (p, at_p, at_y) apart c =
      let inside = at_inside ps l p at_p in
      let long : length (take l ps) ≡ l = let e = length-take l ps in omega arith in
      checked l p at_p n
      (inl (
        k,
        s,
        t,
        (
          x,
          y,
          ⊎_elim (λ lt. stands_before (take l ps) p k s x (stands_take ps l k s x lt st-x))
              (λ ge. let same : k ≡ l = omega arith in
              let (q, at-q, at_x) = st-x in
              let one : q ≡ p = at_one ps l q p (subst (λ (j : ℕ). slice_get ps j ≡ Some q) same at-q) at_p in
              subst (λ (j : ℕ). Stands (take l ps ++ p ∷ []) j s x) (long ∙ sym same) (stands_last (take l ps) p s x (subst (λ (z : List Instruction). slice_get z s ≡ Some x) one at_x))) (cases_lt k l),
          at_y,
          λ e d. apart (e ∙ long) d,
          c,
        ),
      ))

  port_clash : (k s l t : ℕ) (x y : Instruction) → k ≤ l → Stands ps k s x → Stands ps l t y → (k ≡ l → s ≡ t → ⊥) → SamePort (port_claim x (issue ps k)) (port_claim y (issue ps l)) → ⊥
  port_clash k s l t x y le st-x st-y apart port =
      clash_at 18 k s l t x y le st-x st-y apart (inr (inl (refl, subst (λ (c : ℕ). SamePort (port_claim x c) (port_claim y (issue ps l))) (sym (issue_take ps l k le)) port)))

  ports_kept : (k s l t : ℕ) (x y : Instruction) → Stands ps k s x → Stands ps l t y → (k ≡ l → s ≡ t → ⊥) → SamePort (port_claim x (issue ps k)) (port_claim y (issue ps l)) → ⊥
  ports_kept k s l t x y st-x st-y apart port =
      ⊎_elim (λ lt. port_clash l t k s y x (omega arith) st-y st-x (λ e d. apart (sym e) (sym d)) (same_port_mutual (port_claim x (issue ps k)) (port_claim y (issue ps l)) port))
      (λ le. port_clash k s l t x y le st-x st-y apart port) (cases_lt l k)

  write_clash : (run : ℕ → ℕ) → RunOf lawful ps run → (k s l t : ℕ) (x y : Instruction) → k ≤ l → Stands ps k s x → Stands ps l t y → (k ≡ l → s ≡ t → ⊥)
      → WriteTogether x (issue ps k) y (issue ps l) → Meets x.condition (run k) → Meets y.condition (run l) → ⊥
  write_clash run r k s l t x y le st-x st-y apart tog mx my =
      let inside = stands_inside ps l t y st-y in
      let long : length (take l ps) ≡ l = let e = length-take l ps in omega arith in
      let there = run_take ps l lawful lawful (length ps - 1) run (omega arith) r in
      clash_at 19 k s l t x y le st-x st-y apart
      (inr (inr (
        refl,
        subst (λ (c : ℕ). WriteTogether x c y (issue ps l)) (sym (issue_take ps l k le)) tog,
        (run, subst (λ (m : ℕ). Rattle.runs.specs.Runs.Run lawful lawful (May (take l ps)) m run) (sym long) there, mx, subst (λ (m : ℕ). Meets y.condition (run m)) (sym long) my),
      )))

  writes_kept : (run : ℕ → ℕ) → RunOf lawful ps run → (k s l t : ℕ) (x y : Instruction) → Stands ps k s x → Stands ps l t y → (k ≡ l → s ≡ t → ⊥)
      → WriteTogether x (issue ps k) y (issue ps l) → Meets x.condition (run k) → Meets y.condition (run l) → ⊥
  writes_kept run r k s l t x y st-x st-y apart (v, w, wv, ww, er, ec) mx my =
      ⊎_elim (λ lt. write_clash run r l t k s y x (omega arith) st-y st-x (λ e d. apart (sym e) (sym d)) (w, v, ww, wv, sym er, sym ec) my mx)
      (λ le. write_clash run r k s l t x y le st-x st-y apart (v, w, wv, ww, er, ec) mx my) (cases_lt l k)

pub accepted_sound : AcceptedSound
accepted_sound k cs vs says =
    let b = opened k.lawful in
    let ps = (after_all k b cs vs).accepted in
    let checked = checked_all k b cs vs says (λ j p e. absurd (Rattle.constraints.proofs.Moving.none_some p e)) in
    record { claims = claims_kept k.lawful ps checked; ports = ports_kept k.lawful ps checked; writes = writes_kept k.lawful ps checked }

pub some_run : SomeRun
some_run lawful ps small some =
    let (v, hv, h) = some_bit 64 lawful.bits small some in
    ((λ _. v), record { begins = h; each = λ k le. (hv, h); next = λ k i hk hi d. absurd (d refl) })
