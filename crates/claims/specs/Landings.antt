-- When two results land in one cycle and clash: at a write port, and at a register.
use Rattle.std.specs.Prelude.{◌≡◌, ℕ, ◌+◌, ◌<◌, ◌⊎◌, List, map, Some, None, Option, slice_index_or}
use Rattle.std.specs.Option.{option_map}
use Rattle.isa.specs.declared.class.Class.{Class}
use Rattle.isa.specs.declared.class.Class.TheVariants.{Nop, SingleCycle, TwoCycle, FourCycle, Load, Store}
use Rattle.isa.specs.declared.unit.FunctionalUnit.{FunctionalUnit}
use Rattle.isa.specs.declared.unit.Side.{Side}
use Rattle.isa.specs.declared.unit.UnitKind.{UnitKind}
use Rattle.isa.specs.declared.unit.UnitKind.TheVariants.{L, S, M, D}
use Rattle.isa.specs.declared.width.Width.{Width}
use Rattle.isa.specs.declared.width.Width.TheVariants.{Absent, Single, Pair}
use Rattle.isa.specs.Classes.{delay}
use Rattle.admission.specs.declared.instruction.Instruction.{Instruction}
use Rattle.admission.specs.declared.instruction.Landing.{Landing}
use Rattle.admission.specs.Landings.{landing}
use Rattle.admission.specs.Operands.{write_places}
use Rattle.runs.specs.Valuations.{Has}
use Rattle.claims.specs.declared.port.PortResult.{PortResult}
use Rattle.claims.specs.declared.port.PortResult.TheVariants.{OneFourCycle, OneTwoCycle, Other}
use Rattle.claims.specs.declared.port.PortClaim.{PortClaim}
use Rattle.claims.specs.declared.write.WriteClaim.{WriteClaim}

-- the side of a unit, if it is an .M unit
abbrev pub side_of_m : UnitKind → Side → Option Side
side_of_m L s = None
side_of_m S s = None
side_of_m M s = Some s
side_of_m D s = None

-- the side of the .M unit that an instruction names, if it names one
abbrev pub port_side : Option FunctionalUnit → Option Side
port_side None = None
port_side (Some u) = side_of_m u.kind u.side

-- only a result of one register may share its cycle
abbrev pub of_width : PortResult → Width → PortResult
of_width p Absent = Other
of_width p Single = p
of_width p Pair = Other

-- what decides whether a result may share its cycle: a four or a two cycle operation, with one register
abbrev pub port_result : Class → Width → PortResult
port_result Nop w = Other
port_result SingleCycle w = Other
port_result TwoCycle w = of_width OneTwoCycle w
port_result FourCycle w = of_width OneFourCycle w
port_result Load w = Other
port_result Store w = Other

-- the claim of an instruction that issues in a cycle
abbrev pub port_claim : Instruction → ℕ → PortClaim
port_claim i cycle = record { side = port_side i.unit; landing = cycle + delay i.row.class; result = port_result i.row.class i.row.dst }

-- two results may share a cycle
abbrev pub MayShare : PortResult → PortResult → Type 0
MayShare p q = ((p ≡ OneFourCycle) × (q ≡ OneTwoCycle)) ⊎ ((p ≡ OneTwoCycle) × (q ≡ OneFourCycle))

-- both results are of one .M unit, land in one cycle and may not share it
abbrev pub SamePort : PortClaim → PortClaim → Type 0
SamePort a b = (s : Side) × (a.side ≡ Some s) × (b.side ≡ Some s) × (a.landing ≡ b.landing) × (MayShare a.result b.result → ⊥)

-- the landings of an instruction, by the places of its writes
abbrev pub landings : Instruction → ℕ → List (Option Landing)
landings i cycle = map (option_map (landing cycle)) (write_places i)

-- some write of the one and some write of the other land at one register in one cycle
abbrev pub SameLanding : WriteClaim → WriteClaim → Type 0
SameLanding a b = (i j : ℕ) × (l : Landing) × (i < 3) × (j < 3) × (slice_index_or a.landings i None ≡ Some l) × (slice_index_or b.landings j None ≡ Some l)

-- some valuation is in both sets of those in which the one and the other is performed
abbrev pub SharedValuation : WriteClaim → WriteClaim → Type 0
SharedValuation a b = (v : ℕ) × (v < 64) × Has a.performed v × Has b.performed v

-- two writes of one register land in one cycle, and both are performed in some valuation
abbrev pub DoubleWrite : WriteClaim → WriteClaim → Type 0
DoubleWrite a b = SameLanding a b × SharedValuation a b
