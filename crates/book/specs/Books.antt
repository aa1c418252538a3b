-- The book: what a checker holds and answers, call by call.
-- It is fed the calls alone, and knows the map of the repertoire and the lawful set.
use Rattle.std.specs.Prelude.{◌≡◌, ℕ, ◌+◌, ◌<◌, Bool, true, false, cond, ◌⊎◌, List, [], ◌∷◌, ◌++◌, length, Some, None, Ok, Err, Option, Result, ◌==◌, nat_lt}
use Rattle.isa.specs.declared.record.Record.{Record}
use Rattle.isa.specs.declared.refusal.Refusal.TheVariants.{LawfulSetEmpty}
use Rattle.isa.specs.declared.row.Row.{Row}
use Rattle.isa.specs.Records.{flags_of}
use Rattle.isa.specs.Refusals.{number}
use Rattle.admission.specs.declared.instruction.Instruction.{Instruction}
use Rattle.admission.specs.Instructions.{instruction}
use Rattle.admission.specs.Refusals.{RefusedBy, Least}
use Rattle.runs.specs.declared.valuations.Valuations.{Valuations}
use Rattle.constraints.specs.declared.fault.Accepted.{Accepted as Issue}
use Rattle.constraints.specs.declared.fault.Fault.{Fault}
use Rattle.constraints.specs.Schedules.{cycles}
use Rattle.constraints.specs.Faults.{AcceptedAs, RefusedWith}
use Rattle.book.specs.declared.calls.Call.{Call}
use Rattle.book.specs.declared.calls.Call.TheVariants.{Take, Totals as AskTotals, Close}
use Rattle.book.specs.declared.calls.Totals.{Totals}
use Rattle.book.specs.declared.calls.Answer.{Answer}
use Rattle.book.specs.declared.calls.Answer.TheVariants.{Open, Accepted, Totals as Told, Closed}

-- what the book knows: the rows, by operation number, and the lawful set
pub record Rules : Type 0 where
  pub rows : ℕ → Option Row
  pub lawful : Valuations

-- what it holds: the accepted packets, how many of them stall, the open instructions, and whether it is closed
pub record Book : Type 0 where
  pub accepted : List (List Instruction)
  pub stalls : ℕ
  pub held : List Instruction
  pub closed : Bool

-- the next record belongs to the same packet
abbrev pub more : Record → Bool
more r = (flags_of r.flags).p

-- the instruction of a record, if its operation has a row
abbrev pub meant : Option Row → Record → List Instruction
meant None r = []
meant (Some w) r = instruction w r ∷ []

-- the open instructions with that of the record
abbrev pub with : Rules → Book → Record → List Instruction
with k b r = b.held ++ meant (k.rows r.operation) r

-- why a record is not taken: the book is closed; 512 packets are accepted and none is open; the record does not fit its row; it would leave eight open
abbrev pub Untaken : Rules → Book → Record → ℕ → Type 0
Untaken k b r n = ((n ≡ 1) × (b.closed ≡ true)) ⊎ (((n ≡ 2) × (length b.accepted ≡ 512) × (b.held ≡ [])) ⊎ (RefusedBy (k.rows r.operation) r n ⊎ ((n ≡ 10) × (length b.held ≡ 7) × (more r ≡ true))))

-- nothing stands against the record
abbrev pub Taken : Rules → Book → Record → Type 0
Taken k b r = (n : ℕ) → Untaken k b r n → ⊥

-- why the book is not closed: it is, or records are open
abbrev pub Unclosed : Book → ℕ → Type 0
Unclosed b n = ((n ≡ 1) × (b.closed ≡ true)) ⊎ ((n ≡ 9) × (0 < length b.held))

-- both places of a fault are where the next record would stand
pub record Standing (b : Book) (f : Fault) : Type 0 where
  pub packet : f.later.packet ≡ length b.accepted
  pub slot : f.later.slot ≡ length b.held
  pub again : f.earlier ≡ f.later

-- the call is refused with the least number that stands against it
abbrev pub Turned : Book → (ℕ → Type 0) → Fault → Type 0
Turned b Against f = Least Against (number f.refusal) × Standing b f

-- of the accepted packets
abbrev pub totals : Book → Totals
totals b = record { packets = length b.accepted; cycles = cycles b.accepted; stalls = b.stalls }

-- what the book answers to a record: it is refused; or it is open; or its packet, which it completes, is accepted or refused by a constraint
abbrev pub SaysTake : Rules → Book → Record → Result Answer Fault → Type 0
SaysTake k b r (Err f) = Turned b (Untaken k b r) f ⊎ (Taken k b r × (more r ≡ false) × RefusedWith k.lawful k.lawful b.accepted (with k b r) f)
SaysTake k b r (Ok (Open n)) = Taken k b r × (more r ≡ true) × (n ≡ length b.held + 1)
SaysTake k b r (Ok (Accepted a)) = Taken k b r × (more r ≡ false) × AcceptedAs k.lawful k.lawful b.accepted (with k b r) a
SaysTake k b r (Ok (Told t)) = ⊥
SaysTake k b r (Ok (Closed t)) = ⊥

-- to the question for the totals
abbrev pub SaysTotals : Book → Result Answer Fault → Type 0
SaysTotals b (Err f) = ⊥
SaysTotals b (Ok (Open n)) = ⊥
SaysTotals b (Ok (Accepted a)) = ⊥
SaysTotals b (Ok (Told t)) = t ≡ totals b
SaysTotals b (Ok (Closed t)) = ⊥

-- to the close
abbrev pub SaysClose : Book → Result Answer Fault → Type 0
SaysClose b (Err f) = Turned b (Unclosed b) f
SaysClose b (Ok (Open n)) = ⊥
SaysClose b (Ok (Accepted a)) = ⊥
SaysClose b (Ok (Told t)) = ⊥
SaysClose b (Ok (Closed t)) = ((n : ℕ) → Unclosed b n → ⊥) × (t ≡ totals b)

-- what the book answers to a call
abbrev pub Says : Rules → Book → Call → Result Answer Fault → Type 0
Says k b (Take r) a = SaysTake k b r a
Says k b AskTotals a = SaysTotals b a
Says k b Close a = SaysClose b a

-- one packet more
abbrev pub accepting : Book → List Instruction → Issue → Book
accepting b xs a = record { accepted = b.accepted ++ xs ∷ []; stalls = b.stalls + cond a.stall 1 0; held = []; closed = b.closed }

-- with other records open
abbrev pub holding : Book → List Instruction → Book
holding b xs = record { accepted = b.accepted; stalls = b.stalls; held = xs; closed = b.closed }

-- what it holds after a record, by the answer: a refusal of 1 to 10 leaves all as it stood, one of 11 and above drops the open records
abbrev pub after_take : Rules → Book → Record → Result Answer Fault → Book
after_take k b r (Err f) = cond (nat_lt 10 (number f.refusal)) (holding b []) b
after_take k b r (Ok (Open n)) = holding b (with k b r)
after_take k b r (Ok (Accepted a)) = accepting b (with k b r) a
after_take k b r (Ok (Told t)) = b
after_take k b r (Ok (Closed t)) = b

-- after a close
abbrev pub after_close : Book → Result Answer Fault → Book
after_close b (Err f) = b
after_close b (Ok a) = record { accepted = b.accepted; stalls = b.stalls; held = b.held; closed = true }

-- what it holds after a call
abbrev pub after : Rules → Book → Call → Result Answer Fault → Book
after k b (Take r) a = after_take k b r a
after k b AskTotals a = b
after k b Close a = after_close b a

-- the answers to calls, one after the other
abbrev pub SaysAll : Rules → Book → List Call → List (Result Answer Fault) → Type 0
SaysAll k b [] [] = Unit {0}
SaysAll k b [] (a ∷ as') = ⊥
SaysAll k b (c ∷ cs) [] = ⊥
SaysAll k b (c ∷ cs) (a ∷ as') = Says k b c a × SaysAll k (after k b c a) cs as'

-- what the book holds in the end
abbrev pub after_all : Rules → Book → List Call → List (Result Answer Fault) → Book
after_all k b [] as' = b
after_all k b (c ∷ cs) [] = b
after_all k b (c ∷ cs) (a ∷ as') = after_all k (after k b c a) cs as'

-- a new book: closed at once where no valuation is lawful
abbrev pub opened : Valuations → Book
opened lawful = record { accepted = []; stalls = 0; held = []; closed = (lawful.bits == 0) }

-- what opening answers: a lawful set of 0 is refused, with both places (0, 0)
abbrev pub opening : Valuations → Option Fault
opening lawful = cond (lawful.bits == 0) (Some (record { refusal = LawfulSetEmpty; later = record { packet = 0; slot = 0 }; earlier = record { packet = 0; slot = 0 } })) None
