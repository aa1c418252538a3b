-- The answer to a call, computed, and the proof that the book says it.
-- Assumes nothing.
use Rattle.std.proofs.Common.{◌≡◌, ℕ, zero, suc, ◌+◌, ◌<◌, ◌≤◌, false, cond, eqb, ltb, List, [], ◌∷◌, length, get_or, Some, None, Ok, Err, Option, Result, sym, refl, subst, inl, inr, ⊎_elim, arith, eqb→eq}
use Rattle.std.proofs.lemmas.Bool.{cond_both, ltb-true, ltb-false}
use Rattle.isa.specs.declared.record.Record.{Record}
use Rattle.isa.specs.declared.refusal.Refusal.{Refusal}
use Rattle.isa.specs.declared.refusal.Refusal.TheVariants.{Closed, ScheduleFull, NoRow, FieldRange, ConditionForbidden, UnitForbidden, OperandMismatch, SideOrFlag, RecordsOpen, PacketTooLong, UnitTwice, TwoLongNops, DataPathTwice, NonalignedAccess, CrossPathOperands, CrossPathCount, ReadCount, WritePort, DoubleWrite}
use Rattle.isa.specs.declared.row.Row.{Row}
use Rattle.isa.specs.Refusals.{number}
use Rattle.admission.specs.declared.instruction.Instruction.{Instruction}
use Rattle.admission.specs.Refusals.{out_of_range, condition_forbidden, unit_forbidden, operand_mismatch, side_or_flag, Unfit, RefusedBy, Least}
use Rattle.runs.specs.declared.valuations.Valuations.{Valuations}
use Rattle.runs.proofs.Table as table
use Rattle.hazards.specs.Lengths.{packet_length}
use Rattle.constraints.specs.declared.fault.Accepted.{Accepted as Issue}
use Rattle.constraints.specs.declared.fault.Fault.{Fault}
use Rattle.constraints.specs.Schedules.{cycles}
use Rattle.constraints.specs.Constraints.{Breaks}
use Rattle.constraints.specs.Faults.{Later, Earlier, AcceptedAs, RefusedWith}
use Rattle.book.specs.declared.calls.Call.{Call}
use Rattle.book.specs.declared.calls.Call.TheVariants.{Take, Totals as AskTotals, Close}
use Rattle.book.specs.declared.calls.Answer.{Answer}
use Rattle.book.specs.declared.calls.Answer.TheVariants.{Open, Accepted, Totals as Told, Closed as Shut}
use Rattle.book.specs.Books.{Rules, Book, more, with, Untaken, Unclosed, Turned, totals, SaysTake, SaysClose, Says, after, SaysAll}
use Rattle.decision.proofs.Deciding.{Test, both, all_three, either, equal, less, is_true, never, always, scan, scan_least, scan_none}
use Rattle.decision.proofs.Landing.{stalls}
use Rattle.decision.proofs.Breaking.{breaks}
use Rattle.decision.proofs.Placing.{later_slot, earlier_place, later_least, earlier_first}

-- ---- refusals by number

abbrev pub refusals : List Refusal
refusals =
    Closed ∷ Closed ∷ ScheduleFull ∷ NoRow ∷ FieldRange ∷ ConditionForbidden ∷ UnitForbidden ∷ OperandMismatch ∷ SideOrFlag ∷ RecordsOpen ∷ PacketTooLong
    ∷ UnitTwice ∷ TwoLongNops ∷ DataPathTwice ∷ NonalignedAccess ∷ CrossPathOperands ∷ CrossPathCount ∷ ReadCount ∷ WritePort ∷ DoubleWrite ∷ []

abbrev pub refusal_of : ℕ → Refusal
refusal_of n = get_or refusals n Closed

number_of : (n : ℕ) → 1 ≤ n → n < 20 → number (refusal_of n) ≡ n
number_of zero low high = absurd (omega arith)
number_of (suc n) low high = eqb→eq (number (refusal_of (suc n))) (suc n) (table.at (λ k. eqb (number (refusal_of (suc k))) (suc k)) 19 tt n (omega arith))

-- ---- what stands against a call

abbrev pub unfit : (w : Row) (r : Record) (n : ℕ) → Test (Unfit w r n)
unfit w r n =
    either (both (equal n 4) (is_true (out_of_range w r)))
    (either (both (equal n 5) (is_true (condition_forbidden w r)))
    (either (both (equal n 6) (is_true (unit_forbidden w r)))
    (either (both (equal n 7) (is_true (operand_mismatch w r))) (both (equal n 8) (is_true (side_or_flag w r))))))

abbrev pub refused_by : (o : Option Row) (r : Record) (n : ℕ) → Test (RefusedBy o r n)
refused_by None r n = equal n 3
refused_by (Some w) r n = unfit w r n

pub none_empty : {X : Type 0} (x : X) (xs : List X) → x ∷ xs ≡ [] → ⊥
none_empty x xs e = let z : ◌≡◌ {A = ℕ} 0 1 = cc in absurd (omega arith)

abbrev pub empty : {X : Type 0} (xs : List X) → Test (xs ≡ [])
empty [] = always refl
empty (x ∷ xs) = never (none_empty x xs)

abbrev pub untaken : (k : Rules) (b : Book) (r : Record) (n : ℕ) → Test (Untaken k b r n)
untaken k b r n =
    either (both (equal n 1) (is_true b.closed))
    (either (all_three (equal n 2) (equal (length b.accepted) 512) (empty b.held))
    (either (refused_by (k.rows r.operation) r n) (all_three (equal n 10) (equal (length b.held) 7) (is_true (more r)))))

abbrev pub unclosed : (b : Book) (n : ℕ) → Test (Unclosed b n)
unclosed b n = either (both (equal n 1) (is_true b.closed)) (both (equal n 9) (less 0 (length b.held)))

refused_inside : (o : Option Row) (r : Record) (n : ℕ) → RefusedBy o r n → (1 ≤ n) × (n < 11)
refused_inside None r n e = (omega arith, omega arith)
refused_inside (Some w) r n u =
    ⊎_elim (λ (e, _). (omega arith, omega arith)) (⊎_elim (λ (e, _). (omega arith, omega arith)) (⊎_elim (λ (e, _). (omega arith, omega arith)) (⊎_elim (λ (e, _). (omega arith, omega arith)) (λ (e, _). (omega arith, omega arith))))) u

untaken_inside : (k : Rules) (b : Book) (r : Record) (n : ℕ) → Untaken k b r n → (1 ≤ n) × (n < 11)
untaken_inside k b r n u =
    ⊎_elim (λ (e, _). (omega arith, omega arith)) (⊎_elim (λ (e, _, _). (omega arith, omega arith)) (⊎_elim (refused_inside (k.rows r.operation) r n) (λ (e, _, _). (omega arith, omega arith)))) u

unclosed_inside : (b : Book) (n : ℕ) → Unclosed b n → (1 ≤ n) × (n < 11)
unclosed_inside b n u = ⊎_elim (λ (e, _). (omega arith, omega arith)) (λ (e, _). (omega arith, omega arith)) u

breaks_inside : (lawful start : Valuations) (past : List (List Instruction)) (xs : List Instruction) (n : ℕ) → Breaks lawful start past xs n → (11 ≤ n) × (n < 20)
breaks_inside lawful start past xs n b =
    ⊎_elim
    (λ (k, s, t, (x, y, st, there, apart, c)). ⊎_elim
    (λ (_, beside). ⊎_elim (λ (e, _). (omega arith, omega arith)) (⊎_elim (λ (e, _). (omega arith, omega arith)) (⊎_elim (λ (e, _). (omega arith, omega arith)) (⊎_elim (λ (e, _). (omega arith, omega arith)) (λ (e, _). (omega arith, omega arith))))) beside)
    (⊎_elim (λ (e, _). (omega arith, omega arith)) (λ (e, _, _). (omega arith, omega arith))) c)
    (⊎_elim (λ (e, _). (omega arith, omega arith)) (λ (e, _). (omega arith, omega arith))) b

-- ---- a packet

abbrev pub fault_at : Valuations → List (List Instruction) → List Instruction → ℕ → ℕ → Fault
fault_at lawful past xs n t = record { refusal = refusal_of n; later = record { packet = length past; slot = t }; earlier = earlier_place lawful lawful past xs n t }

abbrev pub issue_of : List (List Instruction) → List Instruction → Issue
issue_of past xs = record { issue = cycles past; length = packet_length xs; stall = (stalls past xs).passes }

abbrev pub judged_by : Valuations → List (List Instruction) → List Instruction → ℕ → Result Answer Fault
judged_by lawful past xs n = cond (ltb n 20) (Err (fault_at lawful past xs n (later_slot lawful lawful past xs n))) (Ok (Accepted (issue_of past xs)))

abbrev pub judged : Valuations → List (List Instruction) → List Instruction → Result Answer Fault
judged lawful past xs = judged_by lawful past xs (scan (λ n. (breaks lawful lawful past xs n).passes) 11 9)

module _ (lawful : Valuations) (past : List (List Instruction)) (xs : List Instruction) where
  refused : (n : ℕ) → n < 20 → Least (Breaks lawful lawful past xs) n → RefusedWith lawful lawful past xs (fault_at lawful past xs n (later_slot lawful lawful past xs n))
  refused n h least =
      let e : n ≡ number (refusal_of n) = sym (number_of n (omega (arith, (breaks_inside lawful lawful past xs n least.0).0)) h) in
      let t = later_slot lawful lawful past xs n in
      let p = earlier_place lawful lawful past xs n t in
      let later = later_least lawful lawful past xs n least.0 in
      record {
        least = subst (Least (Breaks lawful lawful past xs)) e least;
        packet = refl;
        later = subst (λ (m : ℕ). Later lawful lawful past xs m t) e later;
        earlier = subst (λ (m : ℕ). Earlier lawful lawful past xs m t p.packet p.slot) e (earlier_first lawful lawful past xs n t later);
      }

  accepted : ((n : ℕ) → Breaks lawful lawful past xs n → ⊥) → AcceptedAs lawful lawful past xs (issue_of past xs)
  accepted free = record { sound = free; issue = refl; lasts = refl; stall = (stalls past xs).decides }

-- ---- the answers

abbrev pub standing : Book → ℕ → Fault
standing b n = record { refusal = refusal_of n; later = record { packet = length b.accepted; slot = length b.held }; earlier = record { packet = length b.accepted; slot = length b.held } }

turned : (b : Book) (P : ℕ → Type 0) (n : ℕ) → 1 ≤ n → n < 20 → Least P n → Turned b P (standing b n)
turned b P n low high least = (subst (Least P) (sym (number_of n low high)) least, record { packet = refl; slot = refl; again = refl })

abbrev pub completed : Rules → Book → Record → Result Answer Fault
completed k b r = cond (more r) (Ok (Open (length b.held + 1))) (judged k.lawful b.accepted (with k b r))

abbrev pub taken_by : Rules → Book → Record → ℕ → Result Answer Fault
taken_by k b r n = cond (ltb n 11) (Err (standing b n)) (completed k b r)

abbrev pub taken : Rules → Book → Record → Result Answer Fault
taken k b r = taken_by k b r (scan (λ n. (untaken k b r n).passes) 1 10)

abbrev pub closed_by : Book → ℕ → Result Answer Fault
closed_by b n = cond (ltb n 11) (Err (standing b n)) (Ok (Shut (totals b)))

abbrev pub closed : Book → Result Answer Fault
closed b = closed_by b (scan (λ n. (unclosed b n).passes) 1 10)

-- the answer to a call
abbrev pub answer : Rules → Book → Call → Result Answer Fault
answer k b (Take r) = taken k b r
answer k b AskTotals = Ok (Told (totals b))
answer k b Close = closed b

judged_says : (k : Rules) (b : Book) (r : Record) → ((n : ℕ) → Untaken k b r n → ⊥) → more r ≡ false → SaysTake k b r (judged k.lawful b.accepted (with k b r))
judged_says k b r free last =
    let lawful = k.lawful in
    let past = b.accepted in
    let xs = with k b r in
    let n = scan (λ n. (breaks lawful lawful past xs n).passes) 11 9 in
    let P : ℕ → Type 0 = Breaks lawful lawful past xs in
    let f : (n : ℕ) → Test (P n) = breaks lawful lawful past xs in
    cond_both (ltb n 20) (Err (fault_at lawful past xs n (later_slot lawful lawful past xs n))) (Ok (Accepted (issue_of past xs))) (SaysTake k b r)
    (λ e. let h = ltb-true n 20 e in inr (free, last, refused lawful past xs n h (scan_least P f 11 9 (λ m p. (breaks_inside lawful lawful past xs m p).0) h)))
    (λ e. let h = ltb-false n 20 e in (free, last, accepted lawful past xs (scan_none P f 11 9 h (breaks_inside lawful lawful past xs))))

taken_says : (k : Rules) (b : Book) (r : Record) → SaysTake k b r (taken k b r)
taken_says k b r =
    let n = scan (λ n. (untaken k b r n).passes) 1 10 in
    let P : ℕ → Type 0 = Untaken k b r in
    let f : (n : ℕ) → Test (P n) = untaken k b r in
    cond_both (ltb n 11) (Err (standing b n)) (completed k b r) (SaysTake k b r)
    (λ e. let h = ltb-true n 11 e in
    let least = scan_least P f 1 10 (λ m p. (untaken_inside k b r m p).0) h in
    inl (turned b P n (untaken_inside k b r n least.0).0 (omega arith) least))
    (λ e. let free = scan_none P f 1 10 (ltb-false n 11 e) (untaken_inside k b r) in
    cond_both (more r) (Ok (Open (length b.held + 1))) (judged k.lawful b.accepted (with k b r)) (SaysTake k b r)
    (λ next. (free, next, refl)) (λ last. judged_says k b r free last))

closed_says : (b : Book) → SaysClose b (closed b)
closed_says b =
    let n = scan (λ n. (unclosed b n).passes) 1 10 in
    let P : ℕ → Type 0 = Unclosed b in
    let f : (n : ℕ) → Test (P n) = unclosed b in
    cond_both (ltb n 11) (Err (standing b n)) (Ok (Shut (totals b))) (SaysClose b)
    (λ e. let h = ltb-true n 11 e in
    let least = scan_least P f 1 10 (λ m p. (unclosed_inside b m p).0) h in
    turned b P n (unclosed_inside b n least.0).0 (omega arith) least)
    (λ e. (scan_none P f 1 10 (ltb-false n 11 e) (unclosed_inside b), refl))

-- a book says the answer that is computed
pub answer_says : (k : Rules) (b : Book) (c : Call) → Says k b c (answer k b c)
answer_says k b (Take r) = taken_says k b r
answer_says k b AskTotals = refl
answer_says k b Close = closed_says b

-- the answers to calls, one after the other
abbrev pub answers : Rules → Book → List Call → List (Result Answer Fault)
answers k b [] = []
answers k b (c ∷ cs) = answer k b c ∷ answers k (after k b c (answer k b c)) cs

pub answers_said : (k : Rules) (b : Book) (cs : List Call) → SaysAll k b cs (answers k b cs)
answers_said k b [] = tt
answers_said k b (c ∷ cs) = (answer_says k b c, answers_said k (after k b c (answer k b c)) cs)
