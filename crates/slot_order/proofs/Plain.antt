-- Answers without the places of faults: what a book says so, and that it says one thing.
-- Assumes nothing.
use Rattle.std.proofs.Common.{◌≡◌, ℕ, Bool, true, false, cond, ltb, ◌⊎◌, List, [], ◌∷◌, map, get_or, Some, None, Ok, Err, Decides, Option, Result, sym, refl, ap, ◌∙◌, subst, ap₂, inl, inr, ⊎_elim}
use Rattle.std.proofs.lemmas.Bool.{cases_order, both_ways}
use Rattle.isa.specs.declared.record.Record.{Record}
use Rattle.isa.specs.declared.refusal.Refusal.{Refusal}
use Rattle.isa.specs.declared.refusal.Refusal.TheVariants.{Closed as IsClosed, ScheduleFull, NoRow, FieldRange, ConditionForbidden, UnitForbidden, OperandMismatch, SideOrFlag, RecordsOpen, PacketTooLong, UnitTwice, TwoLongNops, DataPathTwice, NonalignedAccess, CrossPathOperands, CrossPathCount, ReadCount, WritePort, DoubleWrite, LawfulSetEmpty, FileSize, BlockRange, BlockLayout, RowFileLayout, BufferTooSmall}
use Rattle.isa.specs.Refusals.{number}
use Rattle.admission.specs.declared.instruction.Instruction.{Instruction}
use Rattle.admission.specs.Refusals.{Least}
use Rattle.runs.specs.declared.valuations.Valuations.{Valuations}
use Rattle.constraints.specs.declared.fault.Accepted.{Accepted as Issue}
use Rattle.constraints.specs.declared.fault.Fault.{Fault}
use Rattle.constraints.specs.Schedules.{Stalls}
use Rattle.constraints.specs.Constraints.{Breaks}
use Rattle.constraints.specs.Faults.{AcceptedAs}
use Rattle.book.specs.declared.calls.Call.{Call}
use Rattle.book.specs.declared.calls.Call.TheVariants.{Take, Totals as AskTotals, Close}
use Rattle.book.specs.declared.calls.Answer.{Answer}
use Rattle.book.specs.declared.calls.Answer.TheVariants.{Open, Accepted, Totals as Told, Closed}
use Rattle.book.specs.Books.{Rules, Book, more, with, Untaken, Taken, Unclosed, holding, Says, after, SaysAll}
use Rattle.slot_order.specs.Orders.{plain, added}

-- the refusals by their numbers
names : List Refusal
names =
    IsClosed ∷ IsClosed ∷ ScheduleFull ∷ NoRow ∷ FieldRange ∷ ConditionForbidden ∷ UnitForbidden ∷ OperandMismatch ∷ SideOrFlag ∷ RecordsOpen ∷ PacketTooLong ∷ UnitTwice ∷ TwoLongNops
    ∷ DataPathTwice ∷ NonalignedAccess ∷ CrossPathOperands ∷ CrossPathCount ∷ ReadCount ∷ WritePort ∷ DoubleWrite ∷ LawfulSetEmpty ∷ FileSize ∷ BlockRange ∷ BlockLayout ∷ RowFileLayout
    ∷ BufferTooSmall ∷ []

named : (e : Refusal) → get_or names (number e) IsClosed ≡ e
unfolding names
named IsClosed = refl
named ScheduleFull = refl
named NoRow = refl
named FieldRange = refl
named ConditionForbidden = refl
named UnitForbidden = refl
named OperandMismatch = refl
named SideOrFlag = refl
named RecordsOpen = refl
named PacketTooLong = refl
named UnitTwice = refl
named TwoLongNops = refl
named DataPathTwice = refl
named NonalignedAccess = refl
named CrossPathOperands = refl
named CrossPathCount = refl
named ReadCount = refl
named WritePort = refl
named DoubleWrite = refl
named LawfulSetEmpty = refl
named FileSize = refl
named BlockRange = refl
named BlockLayout = refl
named RowFileLayout = refl
named BufferTooSmall = refl

-- each refusal has a number of its own
pub number_one : (e f : Refusal) → number e ≡ number f → e ≡ f
number_one e f h = sym (named e) ∙ ap (λ (n : ℕ). get_or names n IsClosed) h ∙ named f

pub least_one : (P : ℕ → Type 0) (m n : ℕ) → Least P m → Least P n → n ≡ m
least_one P m n a b = ⊎_elim sym (⊎_elim (λ h. absurd (b.1 m h a.0)) (λ h. absurd (a.1 n h b.0))) (cases_order m n)

pub decides_one : (u u' : Bool) (P : Type 0) → Decides u P → Decides u' P → u' ≡ u
decides_one true u' P d e = e.1 (d.0 refl)
decides_one false true P d e = sym (d.1 (e.0 refl))
decides_one false false P d e = refl

-- what a book says to a call, places aside
abbrev pub Tells : Rules → Book → Call → Result Answer Refusal → Type 0
Tells k b c (Ok a) = Says k b c (Ok a)
Tells k b (Take r) (Err e) =
    Least (Untaken k b r) (number e) ⊎ (Taken k b r × (more r ≡ false) × Least (Breaks k.lawful k.lawful b.accepted (with k b r)) (number e))
Tells k b AskTotals (Err e) = ⊥
Tells k b Close (Err e) = Least (Unclosed b) (number e)

-- what it holds then
abbrev pub next : Rules → Book → Call → Result Answer Refusal → Book
next k b c (Ok a) = after k b c (Ok a)
next k b (Take r) (Err e) = cond (ltb 10 (number e)) (holding b []) b
next k b AskTotals (Err e) = b
next k b Close (Err e) = b

-- the record that the call adds
abbrev pub takes : Call → Result Answer Refusal → Option Record
takes (Take r) (Ok a) = Some r
takes (Take r) (Err e) = cond (ltb 10 (number e)) (Some r) None
takes AskTotals p = None
takes Close p = None

abbrev pub TellsAll : Rules → Book → List Call → List (Result Answer Refusal) → Type 0
TellsAll k b [] [] = Unit {0}
TellsAll k b [] (p ∷ ps) = ⊥
TellsAll k b (c ∷ cs) [] = ⊥
TellsAll k b (c ∷ cs) (p ∷ ps) = Tells k b c p × TellsAll k (next k b c p) cs ps

-- with the places left out
pub tells_plain : (k : Rules) (b : Book) (c : Call) (v : Result Answer Fault) → Says k b c v → Tells k b c (plain v)
tells_plain k b c (Ok a) s = s
tells_plain k b (Take r) (Err f) (inl t) = inl t.0
tells_plain k b (Take r) (Err f) (inr (t, p, w)) = inr (t, p, w.least)
tells_plain k b AskTotals (Err f) s = absurd s
tells_plain k b Close (Err f) s = s.0

pub next_plain : (k : Rules) (b : Book) (c : Call) (v : Result Answer Fault) → after k b c v ≡ next k b c (plain v)
next_plain k b c (Ok a) = refl
next_plain k b (Take r) (Err f) = refl
next_plain k b AskTotals (Err f) = refl
next_plain k b Close (Err f) = refl

pub takes_plain : (c : Call) (v : Result Answer Fault) → added c v ≡ takes c (plain v)
takes_plain (Take r) (Ok a) = refl
takes_plain (Take r) (Err f) = refl
takes_plain AskTotals v = refl
takes_plain Close v = refl

pub all_plain : (k : Rules) (cs : List Call) (vs : List (Result Answer Fault)) (b : Book) → SaysAll k b cs vs → TellsAll k b cs (map plain vs)
all_plain k [] [] b s = tt
all_plain k [] (v ∷ vs) b s = absurd s
all_plain k (c ∷ cs) [] b s = absurd s
all_plain k (c ∷ cs) (v ∷ vs) b s =
    (tells_plain k b c v s.0, subst (λ (d : Book). TellsAll k d cs (map plain vs)) (next_plain k b c v) (all_plain k cs vs (after k b c v) s.1))

-- one plain answer
issue_eq : (i i' l l' : ℕ) (s s' : Bool) → i' ≡ i → l' ≡ l → s' ≡ s → ◌≡◌ {A = Issue} (record { issue = i'; length = l'; stall = s' }) (record { issue = i; length = l; stall = s })
issue_eq i i' l l' s s' e f g = cc

accepted_one : (lawful start : Valuations) (past : List (List Instruction)) (xs : List Instruction) (a a' : Issue) → AcceptedAs lawful start past xs a → AcceptedAs lawful start past xs a' → a' ≡ a
accepted_one lawful start past xs a a' s t =
    issue_eq a.issue a'.issue a.length a'.length a.stall a'.stall (t.issue ∙ sym s.issue) (t.lasts ∙ sym s.lasts)
    (decides_one a.stall a'.stall (Stalls past xs) s.stall t.stall)

module _ (k : Rules) where
  take_one : (b : Book) (r : Record) (p q : Result Answer Refusal) → Tells k b (Take r) p → Tells k b (Take r) q → q ≡ p
  take_one b r (Ok (Open n)) (Ok (Open m)) s t = ap (λ (z : ℕ). Ok (Open z)) (t.2 ∙ sym s.2)
  take_one b r (Ok (Open n)) (Ok (Accepted a)) s t = absurd (both_ways (more r) t.1 s.1)
  take_one b r (Ok (Open n)) (Ok (Told x)) s t = absurd t
  take_one b r (Ok (Open n)) (Ok (Closed x)) s t = absurd t
  take_one b r (Ok (Open n)) (Err e) s (inl l) = absurd (s.0 (number e) l.0)
  take_one b r (Ok (Open n)) (Err e) s (inr t) = absurd (both_ways (more r) t.1 s.1)
  take_one b r (Ok (Accepted a)) (Ok (Open m)) s t = absurd (both_ways (more r) s.1 t.1)
  take_one b r (Ok (Accepted a)) (Ok (Accepted a')) s t =
      ap (λ (z : Issue). Ok (Accepted z)) (accepted_one k.lawful k.lawful b.accepted (with k b r) a a' s.2 t.2)
  take_one b r (Ok (Accepted a)) (Ok (Told x)) s t = absurd t
  take_one b r (Ok (Accepted a)) (Ok (Closed x)) s t = absurd t
  take_one b r (Ok (Accepted a)) (Err e) s (inl l) = absurd (s.0 (number e) l.0)
  take_one b r (Ok (Accepted a)) (Err e) s (inr t) = absurd (s.2.sound (number e) t.2.0)
  take_one b r (Ok (Told x)) q s t = absurd s
  take_one b r (Ok (Closed x)) q s t = absurd s
  take_one b r (Err e) (Ok (Open m)) (inl l) t = absurd (t.0 (number e) l.0)
  take_one b r (Err e) (Ok (Open m)) (inr s) t = absurd (both_ways (more r) s.1 t.1)
  take_one b r (Err e) (Ok (Accepted a)) (inl l) t = absurd (t.0 (number e) l.0)
  take_one b r (Err e) (Ok (Accepted a)) (inr s) t = absurd (t.2.sound (number e) s.2.0)
  take_one b r (Err e) (Ok (Told x)) s t = absurd t
  take_one b r (Err e) (Ok (Closed x)) s t = absurd t
  take_one b r (Err e) (Err f) (inl l) (inl t) = ap Err (number_one f e (least_one (Untaken k b r) (number e) (number f) l t))
  take_one b r (Err e) (Err f) (inl l) (inr t) = absurd (t.0 (number e) l.0)
  take_one b r (Err e) (Err f) (inr s) (inl l) = absurd (s.0 (number f) l.0)
  take_one b r (Err e) (Err f) (inr s) (inr t) =
      ap Err (number_one f e (least_one (Breaks k.lawful k.lawful b.accepted (with k b r)) (number e) (number f) s.2 t.2))

  pub tells_one : (b : Book) (c : Call) (p q : Result Answer Refusal) → Tells k b c p → Tells k b c q → q ≡ p
  tells_one b (Take r) p q s t = take_one b r p q s t
  tells_one b AskTotals (Ok (Open n)) q s t = absurd s
  tells_one b AskTotals (Ok (Accepted a)) q s t = absurd s
  tells_one b AskTotals (Ok (Told x)) (Ok (Open n)) s t = absurd t
  tells_one b AskTotals (Ok (Told x)) (Ok (Accepted a)) s t = absurd t
  tells_one b AskTotals (Ok (Told x)) (Ok (Told y)) s t = cc
  tells_one b AskTotals (Ok (Told x)) (Ok (Closed y)) s t = absurd t
  tells_one b AskTotals (Ok (Told x)) (Err e) s t = absurd t
  tells_one b AskTotals (Ok (Closed x)) q s t = absurd s
  tells_one b AskTotals (Err e) q s t = absurd s
  tells_one b Close (Ok (Open n)) q s t = absurd s
  tells_one b Close (Ok (Accepted a)) q s t = absurd s
  tells_one b Close (Ok (Told x)) q s t = absurd s
  tells_one b Close (Ok (Closed x)) (Ok (Open n)) s t = absurd t
  tells_one b Close (Ok (Closed x)) (Ok (Accepted a)) s t = absurd t
  tells_one b Close (Ok (Closed x)) (Ok (Told y)) s t = absurd t
  tells_one b Close (Ok (Closed x)) (Ok (Closed y)) (_, s) (_, t) = cc
  tells_one b Close (Ok (Closed x)) (Err e) s t = absurd (s.0 (number e) t.0)
  tells_one b Close (Err e) (Ok (Open n)) s t = absurd t
  tells_one b Close (Err e) (Ok (Accepted a)) s t = absurd t
  tells_one b Close (Err e) (Ok (Told y)) s t = absurd t
  tells_one b Close (Err e) (Ok (Closed y)) s t = absurd (t.0 (number e) s.0)
  tells_one b Close (Err e) (Err f) s t = ap Err (number_one f e (least_one (Unclosed b) (number e) (number f) s t))

  pub all_one : (cs : List Call) (ps qs : List (Result Answer Refusal)) (b : Book) → TellsAll k b cs ps → TellsAll k b cs qs → qs ≡ ps
  all_one [] [] [] b s t = refl
  all_one [] [] (q ∷ qs) b s t = absurd t
  all_one [] (p ∷ ps) qs b s t = absurd s
  all_one (c ∷ cs) [] qs b s t = absurd s
  all_one (c ∷ cs) (p ∷ ps) [] b s t = absurd t
  all_one (c ∷ cs) (p ∷ ps) (q ∷ qs) b s t =
      let e = tells_one b c p q s.0 t.0 in
      ap₂ ◌∷◌ e (all_one cs ps qs (next k b c p) s.1 (subst (λ (x : Result Answer Refusal). TellsAll k (next k b c x) cs qs) e t.1))
