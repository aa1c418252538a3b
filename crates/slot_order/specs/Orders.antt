-- Two lists of calls that differ in the order of slots alone, and the answers to them.
use Rattle.std.specs.Prelude.{◌≡◌, ℕ, ◌*◌, ◌/◌, Bool, true, false, cond, List, [], ◌∷◌, ◌++◌, map, Some, None, Ok, Err, Option, Result, nat_lt}
use Rattle.std.specs.List.Sorted.{IsPermutation}
use Rattle.std.specs.List.{AllZip}
use Rattle.isa.specs.declared.record.Record.{Record}
use Rattle.isa.specs.declared.refusal.Refusal.{Refusal}
use Rattle.isa.specs.Refusals.{number}
use Rattle.constraints.specs.declared.fault.Fault.{Fault}
use Rattle.book.specs.declared.calls.Call.{Call}
use Rattle.book.specs.declared.calls.Call.TheVariants.{Take, Totals as AskTotals, Close}
use Rattle.book.specs.declared.calls.Answer.{Answer}
use Rattle.book.specs.Books.{Rules, Book, more, opened, Says, SaysAll}

-- an answer without the places of a fault
abbrev pub plain : Result Answer Fault → Result Answer Refusal
plain (Ok a) = Ok a
plain (Err f) = Err f.refusal

-- a record without its p
abbrev pub unmarked : Record → Record
unmarked r = record { operation = r.operation; unit = r.unit; flags = 2 * (r.flags / 2); condition = r.condition; s1 = r.s1; s2 = r.s2; dst = r.dst; count = r.count }

-- the record that a call adds to a packet: a take's, unless a refusal of 1 to 10 turned it away
abbrev pub added : Call → Result Answer Fault → Option Record
added (Take r) (Ok a) = Some r
added (Take r) (Err f) = cond (nat_lt 10 (number f.refusal)) (Some r) None
added AskTotals a = None
added Close a = None

-- one record more of the packet xs, which p = 0 completes
abbrev pub completing : (List Record → List (List Record)) → List Record → Bool → List (List Record)
completing rest xs true = rest xs
completing rest xs false = xs ∷ rest []

-- with a record, if one was added
abbrev pub adding : (List Record → List (List Record)) → List Record → Option Record → List (List Record)
adding rest xs None = rest xs
adding rest xs (Some r) = completing rest (xs ++ unmarked r ∷ []) (more r)

-- the records added, packet by packet; last those left open
abbrev pub packets : List Record → List Call → List (Result Answer Fault) → List (List Record)
packets xs [] vs = xs ∷ []
packets xs (c ∷ cs) [] = xs ∷ []
packets xs (c ∷ cs) (v ∷ vs) = adding (λ ys. packets ys cs vs) xs (added c v)

-- the call c' in the place of c: the same, or another record with the same p where one was added
abbrev pub InPlace : Call → Option Record → Call → Type 0
InPlace c None c' = c' ≡ c
InPlace c (Some r) (Take r') = more r' ≡ more r
InPlace c (Some r) AskTotals = ⊥
InPlace c (Some r) Close = ⊥

-- place by place
abbrev pub InPlaces : List Call → List (Result Answer Fault) → List Call → Type 0
InPlaces [] vs [] = Unit {0}
InPlaces [] vs (c' ∷ cs') = ⊥
InPlaces (c ∷ cs) vs [] = ⊥
InPlaces (c ∷ cs) [] (c' ∷ cs') = ⊥
InPlaces (c ∷ cs) (v ∷ vs) (c' ∷ cs') = InPlace c (added c v) c' × InPlaces cs vs cs'

-- the calls cs' differ from cs, answered by vs, in this alone: the records added to a packet, or left open at the end, come in another order, and p stays with the slot
pub record Reordered (cs : List Call) (vs : List (Result Answer Fault)) (cs' : List Call) : Type 0 where
  pub places : InPlaces cs vs cs'
  pub orders : AllZip IsPermutation (packets [] cs vs) (packets [] cs' vs)

-- such lists, put to new books on equal maps and lawful sets, have the same answers, places of faults aside
abbrev pub SlotOrderLaw : Type 0
SlotOrderLaw = (k k' : Rules) (cs cs' : List Call) (vs vs' : List (Result Answer Fault)) → ((n : ℕ) → k.rows n ≡ k'.rows n) → k.lawful ≡ k'.lawful
    → SaysAll k (opened k.lawful) cs vs → SaysAll k' (opened k'.lawful) cs' vs' → Reordered cs vs cs' → map plain vs' ≡ map plain vs

-- a book has one answer to a call
abbrev pub OneAnswer : Type 0
OneAnswer = (k : Rules) (b : Book) (c : Call) (v v' : Result Answer Fault) → Says k b c v → Says k b c v' → v' ≡ v
