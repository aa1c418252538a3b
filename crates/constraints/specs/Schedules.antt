-- Schedules: lists of packets, each a list of instructions. When packets issue, and where their writes land.
-- Packets, slots and cycles count from 0.
use Rattle.std.specs.Prelude.{◌≡◌, ℕ, ◌+◌, ◌<◌, ◌≤◌, true, false, List, take, Some, None, sum_by, slice_index_or}
use Rattle.std.specs.List.{slice_get}
use Rattle.isa.specs.declared.condition.ConditionRegister.{ConditionRegister}
use Rattle.isa.specs.Conditions.{register_number}
use Rattle.isa.specs.declared.register.Register.{Register}
use Rattle.admission.specs.declared.instruction.Instruction.{Instruction}
use Rattle.admission.specs.declared.instruction.Write.{Write}
use Rattle.admission.specs.Operands.{write_places}
use Rattle.runs.specs.Valuations.{place}
use Rattle.hazards.specs.Lengths.{packet_length}

-- the cycles that packets take one after the other
abbrev pub cycles : List (List Instruction) → ℕ
cycles ps = sum_by packet_length ps

-- the cycle in which packet k issues
abbrev pub issue : List (List Instruction) → ℕ → ℕ
issue ps k = cycles (take k ps)

-- the instruction stands in slot s of packet k
abbrev pub Stands : List (List Instruction) → ℕ → ℕ → Instruction → Type 0
Stands ps k s i = (p : List Instruction) × (slice_get ps k ≡ Some p) × (slice_get p s ≡ Some i)

-- the instruction has that write
abbrev pub Writes : Instruction → Write → Type 0
Writes i w = (j : ℕ) × (j < 3) × (slice_index_or (write_places i) j None ≡ Some w)

-- that write of some instruction of the schedule lands in cycle c
abbrev pub Lands : List (List Instruction) → ℕ → Write → Type 0
Lands ps c w = (k s : ℕ) × (i : Instruction) × Stands ps k s i × Writes i w × (c ≡ issue ps k + w.delay)

-- the register is the condition register of place i in valuations
abbrev pub Tested : Register → ℕ → Type 0
Tested r i = (q : ConditionRegister) × (place q ≡ i) × (r.number ≡ register_number q)

-- from packet k to the next the condition register of place i may change: a write of it, performed or not, lands from the issue of the one to just before that of the other
abbrev pub May : List (List Instruction) → ℕ → ℕ → Type 0
May ps k i = (c : ℕ) × (w : Write) × Lands ps c w × (issue ps k ≤ c) × (c < issue ps (k + 1)) × Tested w.register i

-- the packet xs behind past has a stall: one of its instructions brings over the cross path a register of which a write, not load data, landed in the cycle before
abbrev pub Stalls : List (List Instruction) → List Instruction → Type 0
Stalls past xs = (t c : ℕ) × (x : Instruction) × (w : Write) × (slice_get xs t ≡ Some x) × (x.cross ≡ true) × (x.s2 ≡ Some w.register) × Lands past c w × (w.load ≡ false) × (c + 1 ≡ cycles past)
