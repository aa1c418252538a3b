-- The number of each refusal.
-- Everything that is refused anywhere is refused by one of these.
use Rattle.std.specs.Prelude.{ℕ}
use Rattle.isa.specs.declared.refusal.Refusal.{Refusal}
use Rattle.isa.specs.declared.refusal.Refusal.TheVariants.{Closed, ScheduleFull, NoRow, FieldRange, ConditionForbidden, UnitForbidden, OperandMismatch, SideOrFlag, RecordsOpen, PacketTooLong, UnitTwice, TwoLongNops, DataPathTwice, NonalignedAccess, CrossPathOperands, CrossPathCount, ReadCount, WritePort, DoubleWrite, LawfulSetEmpty, FileSize, BlockRange, BlockLayout, RowFileLayout, BufferTooSmall}

-- the number under which a refusal is reported
abbrev pub number : Refusal → ℕ
number Closed = 1
number ScheduleFull = 2
number NoRow = 3
number FieldRange = 4
number ConditionForbidden = 5
number UnitForbidden = 6
number OperandMismatch = 7
number SideOrFlag = 8
number RecordsOpen = 9
number PacketTooLong = 10
number UnitTwice = 11
number TwoLongNops = 12
number DataPathTwice = 13
number NonalignedAccess = 14
number CrossPathOperands = 15
number CrossPathCount = 16
number ReadCount = 17
number WritePort = 18
number DoubleWrite = 19
number LawfulSetEmpty = 20
number FileSize = 21
number BlockRange = 22
number BlockLayout = 23
number RowFileLayout = 24
number BufferTooSmall = 25
