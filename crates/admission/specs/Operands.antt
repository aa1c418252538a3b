-- What an instruction reads and writes.
-- Each mention of a register is one read, and a pair counts as both its registers.
use Rattle.std.specs.Prelude.{Bool, true, false, cond, List, [], ◌∷◌, ◌++◌, map, Some, None, Option}
use Rattle.std.specs.Option.{option_map}
use Rattle.isa.specs.declared.class.Class.{Class}
use Rattle.isa.specs.declared.class.Class.TheVariants.{Nop, SingleCycle, TwoCycle, FourCycle, Load, Store}
use Rattle.isa.specs.declared.register.Register.{Register}
use Rattle.isa.specs.declared.width.Width.{Width}
use Rattle.isa.specs.declared.width.Width.TheVariants.{Absent, Single, Pair}
use Rattle.isa.specs.Classes.{delay}
use Rattle.isa.specs.Registers.{odd_of}
use Rattle.admission.specs.declared.instruction.Instruction.{Instruction}
use Rattle.admission.specs.declared.instruction.Write.{Write}

-- the registers that an operand of that width covers
abbrev pub covered : Width → Option Register → List Register
covered Absent o = []
covered Single None = []
covered Single (Some r) = r ∷ []
covered Pair None = []
covered Pair (Some r) = r ∷ odd_of r ∷ []

-- a store reads its dst
abbrev pub stored_width : Class → Width → Width
stored_width Nop w = Absent
stored_width SingleCycle w = Absent
stored_width TwoCycle w = Absent
stored_width FourCycle w = Absent
stored_width Load w = Absent
stored_width Store w = w

-- all but NOPs and stores write their dst
abbrev pub result_width : Class → Width → Width
result_width Nop w = Absent
result_width SingleCycle w = w
result_width TwoCycle w = w
result_width FourCycle w = w
result_width Load w = w
result_width Store w = Absent

-- the data is that of a load
abbrev pub is_load : Class → Bool
is_load Nop = false
is_load SingleCycle = false
is_load TwoCycle = false
is_load FourCycle = false
is_load Load = true
is_load Store = false

-- the reads: s1, s2, and a store's dst
abbrev pub reads : Instruction → List Register
reads i = covered i.row.s1 i.s1 ++ (covered i.row.s2 i.s2 ++ covered (stored_width i.row.class i.row.dst) i.dst)

-- a result is written after the class's delay
abbrev pub result_write : Class → Register → Write
result_write k r = record { register = r; delay = delay k; load = is_load k }

-- an updated base register is written at once, and is no load data
abbrev pub base_write : Register → Write
base_write r = record { register = r; delay = 0; load = false }

-- the writes: the result, and with U the base register s2
abbrev pub writes : Instruction → List Write
writes i = map (result_write i.row.class) (covered (result_width i.row.class i.row.dst) i.dst) ++ map base_write (cond i.update (covered Single i.s2) [])

-- the entries that are there
abbrev pub present : {X : Type 0} → List (Option X) → List X
present [] = []
present (None ∷ os) = present os
present (Some x ∷ os) = x ∷ present os

-- the two places of an operand: the register it names, and the odd one of a pair
abbrev pub halves : Width → Option Register → List (Option Register)
halves Absent o = None ∷ None ∷ []
halves Single o = o ∷ None ∷ []
halves Pair o = o ∷ option_map odd_of o ∷ []

-- the reads by places: two for s1, for s2 and for dst
abbrev pub read_places : Instruction → List (Option Register)
read_places i = halves i.row.s1 i.s1 ++ (halves i.row.s2 i.s2 ++ halves (stored_width i.row.class i.row.dst) i.dst)

-- the writes by places: two for the result, one for the base register
abbrev pub write_places : Instruction → List (Option Write)
write_places i = map (option_map (result_write i.row.class)) (halves (result_width i.row.class i.row.dst) i.dst) ++ (cond i.update (option_map base_write i.s2) None ∷ [])
