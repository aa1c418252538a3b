-- When two instructions of one packet clash, kind by kind.
use Rattle.std.specs.Prelude.{◌≡◌, ◌<◌, true, ◌⊎◌, Some, ◌≢◌}
use Rattle.isa.specs.declared.unit.FunctionalUnit.{FunctionalUnit}
use Rattle.isa.specs.Classes.{accesses}
use Rattle.admission.specs.Refusals.{is_nop}
use Rattle.admission.specs.declared.instruction.Instruction.{Instruction}

-- both name one unit
abbrev pub SameUnit : Instruction → Instruction → Type 0
SameUnit a b = (u : FunctionalUnit) × (a.unit ≡ Some u) × (b.unit ≡ Some u)

-- a NOP of more than one cycle
abbrev pub LongNop : Instruction → Type 0
LongNop a = (is_nop a.row.class ≡ true) × (1 < a.cycles)

-- both are such NOPs
abbrev pub TwoLongNops : Instruction → Instruction → Type 0
TwoLongNops a b = LongNop a × LongNop b

-- a load or a store
abbrev pub Accesses : Instruction → Type 0
Accesses a = accesses a.row.class ≡ true

-- both are loads or stores over the data path of one side
abbrev pub SameDataPath : Instruction → Instruction → Type 0
SameDataPath a b = Accesses a × Accesses b × (a.path ≡ b.path)

-- both are loads or stores, and one of them is nonaligned
abbrev pub NonalignedPair : Instruction → Instruction → Type 0
NonalignedPair a b = Accesses a × Accesses b × ((a.row.nonaligned ≡ true) ⊎ (b.row.nonaligned ≡ true))

-- both bring s2 over the cross path to units of one side, and the two s2 differ
abbrev pub CrossOperands : Instruction → Instruction → Type 0
CrossOperands a b = (u v : FunctionalUnit) × (a.unit ≡ Some u) × (b.unit ≡ Some v) × (u.side ≡ v.side) × (a.cross ≡ true) × (b.cross ≡ true) × (a.s2 ≢ b.s2)
