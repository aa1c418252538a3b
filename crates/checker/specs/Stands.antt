-- Which book a checker stands for.
use Rattle.std.specs.Prelude.{◌≡◌, ℕ, ◌<◌, ◌≤◌, true, false, List, [], length, Ok, Err, Option, Result}
use Rattle.isa.specs.declared.row.Row.{Row}
use Rattle.isa.specs.Refusals.{number}
use Rattle.admission.specs.declared.instruction.Instruction.{Instruction}
use Rattle.runs.specs.declared.valuations.Valuations.{Valuations}
use Rattle.constraints.specs.declared.fault.Fault.{Fault}
use Rattle.constraints.specs.Faults.{AcceptedAs, RefusedWith}
use Rattle.flight.specs.Kept.{StandsFor}
use Rattle.book.specs.declared.calls.Call.{Call}
use Rattle.book.specs.declared.calls.Answer.{Answer}
use Rattle.book.specs.declared.calls.Answer.TheVariants.{Open, Accepted, Totals as Told, Closed as Ended}
use Rattle.book.specs.Books.{Rules, Book, Says, after, accepting, holding}
use Rattle.checker.specs.declared.checker.State.{State}
use Rattle.checker.specs.declared.checker.State.TheVariants.{Idle, Gathering, Closed}
use Rattle.checker.specs.declared.checker.Checker.{Checker}

-- the state is that of the book
abbrev pub Fits : State → Book → Type 0
Fits Idle b = (b.closed ≡ false) × (b.held ≡ [])
Fits Gathering b = (b.closed ≡ false) × (0 < length b.held) × (length b.accepted < 512)
Fits Closed b = (b.closed ≡ true) × (b.held ≡ [])

-- what the checker keeps of the accepted packets is what the book holds of them
abbrev pub Keeps : {R : Type 0} → Checker R → Book → Type 0
Keeps c b = (c.stalls ≡ b.stalls) × (b.stalls ≤ length b.accepted) × StandsFor c.history c.history.lawful b.accepted

-- the checker stands for the book: it is in the same state, with the same records open, and what it keeps stands for the accepted packets
pub record Stands {R : Type 0} (c : Checker R) (b : Book) : Type 0 where
  pub fits : Fits c.state b
  pub held : c.gathered ≡ b.held
  pub short : length b.held ≤ 7
  pub stalls : c.stalls ≡ b.stalls
  pub calm : b.stalls ≤ length b.accepted
  pub history : StandsFor c.history c.history.lawful b.accepted

-- what a book knows that is kept on these rows and this lawful set
abbrev pub rules_on : (ℕ → Option Row) → Valuations → Rules
rules_on rows lawful = record { rows = rows; lawful = lawful }

-- what the book of a checker knows, whose repertoire has these rows
abbrev pub rules_of : {R : Type 0} → (ℕ → Option Row) → Checker R → Rules
rules_of rows c = rules_on rows c.history.lawful

-- the repertoire and the lawful set stay
abbrev pub KeepsRules : {R : Type 0} → Checker R → Checker R → Type 0
KeepsRules before now = (now.repertoire ≡ before.repertoire) × (now.history.lawful ≡ before.history.lawful)

-- a refusal of 1 to 10 leaves the checker exactly as it was
abbrev pub Unchanged : {R : Type 0} → Checker R → Checker R → Result Answer Fault → Type 0
Unchanged before now (Err f) = number f.refusal ≤ 10 → now ≡ before
Unchanged before now (Ok a) = Unit {0}

-- on a repertoire with these rows, the answer is what every book that the checker stands for says, and the checker then stands for what that book holds after the call
abbrev pub Serves : {R : Type 0} → (ℕ → Option Row) → Checker R → Call → Checker R → Result Answer Fault → Type 0
Serves rows before c now a = (b : Book) → Stands before b → Says (rules_of rows before) b c a × Stands now (after (rules_of rows before) b c a) × Unchanged before now a

-- the checker has completed the packet xs of the book, which is still to be judged
pub record Complete {R : Type 0} (c : Checker R) (b : Book) (xs : List Instruction) : Type 0 where
  pub going : b.closed ≡ false
  pub gathered : c.gathered ≡ xs
  pub room : length b.accepted < 512
  pub stalls : c.stalls ≡ b.stalls
  pub calm : b.stalls ≤ length b.accepted
  pub history : StandsFor c.history c.history.lawful b.accepted

-- what is answered to the packet xs
abbrev pub Verdict : Valuations → Book → List Instruction → Result Answer Fault → Type 0
Verdict lawful b xs (Err f) = RefusedWith lawful lawful b.accepted xs f
Verdict lawful b xs (Ok (Open n)) = ⊥
Verdict lawful b xs (Ok (Accepted a)) = AcceptedAs lawful lawful b.accepted xs a
Verdict lawful b xs (Ok (Told t)) = ⊥
Verdict lawful b xs (Ok (Ended t)) = ⊥

-- the book with the packet accepted, or dropped
abbrev pub after_packet : Book → List Instruction → Result Answer Fault → Book
after_packet b xs (Err f) = holding b []
after_packet b xs (Ok (Open n)) = b
after_packet b xs (Ok (Accepted a)) = accepting b xs a
after_packet b xs (Ok (Told t)) = b
after_packet b xs (Ok (Ended t)) = b
