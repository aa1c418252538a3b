-- The instructions of a schedule in their order, and those that are kept once later packets issue.
use Rattle.std.specs.Prelude.{◌≡◌, ℕ, ◌+◌, ◌<◌, ◌≤◌, Bool, true, false, List, [], ◌∷◌, ◌++◌, Some, None, filter, Option, nat_le, slice_index_or}
use Rattle.std.specs.List.{slice_get}
use Rattle.isa.specs.Classes.{delay}
use Rattle.isa.specs.declared.register.Register.{Register}
use Rattle.admission.specs.declared.instruction.Instruction.{Instruction}
use Rattle.admission.specs.declared.instruction.Write.{Write}
use Rattle.admission.specs.Operands.{write_places}
use Rattle.hazards.specs.Lengths.{packet_length}
use Rattle.constraints.specs.Schedules.{Tested}
use Rattle.flight.specs.declared.issued.Issued.{Issued}
use Rattle.flight.specs.declared.issued.InFlight.{InFlight}

-- the instruction x in slot s of packet k, which issues in cycle c
abbrev pub issued_at : ℕ → ℕ → ℕ → Instruction → Issued
issued_at k c s x = record { place = record { packet = k; slot = s }; issue = c; instruction = x }

-- the instructions of packet k, from slot s on, which issue in cycle c
abbrev pub slots : ℕ → ℕ → ℕ → List Instruction → List Issued
slots k c s [] = []
slots k c s (x ∷ xs) = issued_at k c s x ∷ slots k c (s + 1) xs

-- the instructions of packets, by packet and then slot; the first packet is packet k and issues in cycle c
abbrev pub positions : ℕ → ℕ → List (List Instruction) → List Issued
positions k c [] = []
positions k c (p ∷ ps) = slots k c 0 p ++ positions (k + 1) (c + packet_length p) ps

-- the result lands no earlier than in the cycle before c
abbrev pub live : ℕ → Issued → Bool
live c q = nat_le c (q.issue + delay q.instruction.row.class + 1)

-- those of which this holds
abbrev pub kept : ℕ → List Issued → List Issued
kept c qs = filter (live c) qs

-- a write, if there is one, of what issued in a cycle lands from one cycle to just before another, at the condition register of place i
abbrev pub FreedBy : ℕ → ℕ → ℕ → ℕ → Option Write → Type 0
FreedBy issue low high i None = ⊥
FreedBy issue low high i (Some w) = (low ≤ issue + w.delay) × (issue + w.delay < high) × Tested w.register i

-- so does one of the instruction's writes
abbrev pub Frees : ℕ → ℕ → ℕ → Issued → Type 0
Frees low high i q = (j : ℕ) × (j < 3) × FreedBy q.issue low high i (slice_index_or (write_places q.instruction) j None)

-- so does one of the list
abbrev pub SomeFrees : ℕ → ℕ → ℕ → List InFlight → Type 0
SomeFrees low high i es = (a : ℕ) × (e : InFlight) × (slice_get es a ≡ Some e) × Frees low high i e.issued

-- a write, if there is one, of what issued in a cycle landed at that register in the cycle before c, and is no load data
abbrev pub SettledBy : ℕ → Register → ℕ → Option Write → Type 0
SettledBy issue r c None = ⊥
SettledBy issue r c (Some w) = (w.register ≡ r) × (w.load ≡ false) × (issue + w.delay + 1 ≡ c)

-- so did one of the instruction's writes
abbrev pub Settles : Register → ℕ → Issued → Type 0
Settles r c q = (j : ℕ) × (j < 3) × SettledBy q.issue r c (slice_index_or (write_places q.instruction) j None)

-- so did one of the list
abbrev pub SomeSettles : Register → ℕ → List InFlight → Type 0
SomeSettles r c es = (a : ℕ) × (e : InFlight) × (slice_get es a ≡ Some e) × Settles r c e.issued

-- the instruction brings over the cross path a register at which one of the list did
abbrev pub Waits : ℕ → List InFlight → Instruction → Type 0
Waits c es x = (r : Register) × (x.cross ≡ true) × (x.s2 ≡ Some r) × SomeSettles r c es

-- one of the instructions does
abbrev pub SomeWaits : ℕ → List InFlight → List Instruction → Type 0
SomeWaits c es xs = (t : ℕ) × (x : Instruction) × (slice_get xs t ≡ Some x) × Waits c es x
