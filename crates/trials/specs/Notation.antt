-- A notation for schedules and for what is answered to them.
-- Operands stand as in the rules, section 12.
use Rattle.std.specs.Prelude.{ℕ, ◌+◌, true, false, List, [], ◌∷◌, ◌++◌, Ok, Err, Result}
use Rattle.isa.specs.BuiltIn.{built_in_map}
use Rattle.isa.specs.declared.record.Record.{Record}
use Rattle.isa.specs.declared.refusal.Refusal.{Refusal}
use Rattle.runs.specs.declared.valuations.Valuations.{Valuations}
use Rattle.constraints.specs.declared.fault.Fault.{Fault}
use Rattle.constraints.specs.declared.fault.Place.{Place}
use Rattle.book.specs.declared.calls.Call.{Call}
use Rattle.book.specs.declared.calls.Call.TheVariants.{Take, Totals as AskTotals}
use Rattle.book.specs.declared.calls.Answer.{Answer}
use Rattle.book.specs.declared.calls.Answer.TheVariants.{Open, Accepted, Totals as Told}
use Rattle.book.specs.Books.{Rules, opened, SaysAll}

-- unit .L1 has the number 1
abbrev pub L1 : ℕ
L1 = 1

-- unit .S1 has 2
abbrev pub S1 : ℕ
S1 = 2

-- unit .M1 has 3
abbrev pub M1 : ℕ
M1 = 3

-- unit .D1 has 4
abbrev pub D1 : ℕ
D1 = 4

-- unit .L2 has 5
abbrev pub L2 : ℕ
L2 = 5

-- unit .S2 has 6
abbrev pub S2 : ℕ
S2 = 6

-- unit .M2 has 7
abbrev pub M2 : ℕ
M2 = 7

-- unit .D2 has 8
abbrev pub D2 : ℕ
D2 = 8

-- a register of side A
abbrev pub a : ℕ → ℕ
a n = n

-- a register of side B
abbrev pub b : ℕ → ℕ
b n = 32 + n

-- no register: a constant, no offset, or no operand
abbrev pub absent : ℕ
absent = 255

-- an operation on a unit, with s1, s2 and dst
abbrev pub operation : ℕ → ℕ → ℕ → ℕ → ℕ → Record
operation o u first second result = record { operation = o; unit = u; flags = 0; condition = 0; s1 = first; s2 = second; dst = result; count = 0 }

-- addition: s1, s2, dst
abbrev pub ADD : ℕ → ℕ → ℕ → ℕ → Record
ADD u first second result = operation 1 u first second result

-- subtraction: s1, s2, dst
abbrev pub SUB : ℕ → ℕ → ℕ → ℕ → Record
SUB u first second result = operation 2 u first second result

-- a product after two cycles: s1, s2, dst
abbrev pub MPY : ℕ → ℕ → ℕ → ℕ → Record
MPY u first second result = operation 7 u first second result

-- products after four cycles: s1, s2, and a pair as dst, named by its even register
abbrev pub SMPY2 : ℕ → ℕ → ℕ → ℕ → Record
SMPY2 u first second result = operation 8 u first second result

-- a sum of products after four cycles: s1, s2, dst
abbrev pub DOTP2 : ℕ → ℕ → ℕ → ℕ → Record
DOTP2 u first second result = operation 9 u first second result

-- averages after two cycles: s1, s2, dst
abbrev pub AVG2 : ℕ → ℕ → ℕ → ℕ → Record
AVG2 u first second result = operation 10 u first second result

-- a move: s2, dst
abbrev pub MV : ℕ → ℕ → ℕ → Record
MV u second result = operation 4 u absent second result

-- a shift: s2, s1, dst
abbrev pub SHR : ℕ → ℕ → ℕ → ℕ → Record
SHR u second first result = operation 6 u first second result

-- a load: the base s2, with no offset, and dst
abbrev pub LDW : ℕ → ℕ → ℕ → Record
LDW u second result = operation 11 u absent second result

-- a NOP of so many cycles
abbrev pub NOP : ℕ → Record
NOP n = record { operation = 0; unit = 0; flags = 0; condition = 0; s1 = absent; s2 = absent; dst = absent; count = n }

-- with one flag more
abbrev pub flagged : ℕ → Record → Record
flagged f r = record { operation = r.operation; unit = r.unit; flags = r.flags + f; condition = r.condition; s1 = r.s1; s2 = r.s2; dst = r.dst; count = r.count }

-- p: the next record belongs to the same packet
abbrev pub beside : Record → Record
beside r = flagged 1 r

-- X: s2 comes over the cross path
abbrev pub crossing : Record → Record
crossing r = flagged 2 r

-- U: the base register is updated
abbrev pub updating : Record → Record
updating r = flagged 8 r

-- under a condition
abbrev pub when : ℕ → Record → Record
when c r = record { operation = r.operation; unit = r.unit; flags = r.flags; condition = c; s1 = r.s1; s2 = r.s2; dst = r.dst; count = r.count }

-- B0 is nonzero
abbrev pub nonzero_b0 : ℕ
nonzero_b0 = 2

-- B0 is zero
abbrev pub zero_b0 : ℕ
zero_b0 = 3

-- B1 is zero
abbrev pub zero_b1 : ℕ
zero_b1 = 5

-- A1 is nonzero
abbrev pub nonzero_a1 : ℕ
nonzero_a1 = 8

-- the records of a packet, taken one after the other; all but the last have p
abbrev pub packet : List Record → List Call
packet [] = []
packet (r ∷ []) = Take r ∷ []
packet (r ∷ s ∷ rs) = Take (beside r) ∷ packet (s ∷ rs)

-- the packets of a schedule, and then the question for the totals
abbrev pub schedule : List (List Record) → List Call
schedule [] = AskTotals ∷ []
schedule (p ∷ ps) = packet p ++ schedule ps

-- so many records are open
abbrev pub waiting : ℕ → Result Answer Fault
waiting n = Ok (Open n)

-- the packet issues in a cycle, takes so many, and has no stall
abbrev pub accepted : ℕ → ℕ → Result Answer Fault
accepted issue length = Ok (Accepted (record { issue = issue; length = length; stall = false }))

-- the same, with a stall
abbrev pub stalled : ℕ → ℕ → Result Answer Fault
stalled issue length = Ok (Accepted (record { issue = issue; length = length; stall = true }))

-- a packet and a slot
abbrev pub place : ℕ → ℕ → Place
place p s = record { packet = p; slot = s }

-- the packet is refused, at a later place with an earlier one
abbrev pub refused : Refusal → Place → Place → Result Answer Fault
refused r later earlier = Err (record { refusal = r; later = later; earlier = earlier })

-- packets, cycles and stalls
abbrev pub totals : ℕ → ℕ → ℕ → Result Answer Fault
totals packets cycles stalls = Ok (Told (record { packets = packets; cycles = cycles; stalls = stalls }))

-- every valuation is lawful
abbrev pub every : Valuations
every = record { bits = 0xffff_ffff_ffff_ffff }

-- the built-in rows, with a lawful set
abbrev pub rules : Valuations → Rules
rules lawful = record { rows = built_in_map; lawful = lawful }

-- a new book over the built-in rows answers so to a schedule and to the question for the totals after it
pub record Answers (lawful : Valuations) (ps : List (List Record)) (as' : List (Result Answer Fault)) : Type 0 where
  pub says : SaysAll (rules lawful) (opened lawful) (schedule ps) as'
