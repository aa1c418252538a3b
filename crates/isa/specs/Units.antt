-- Functional units, and the sets of them that rows permit.
use Rattle.std.specs.Prelude.{ℕ, ◌+◌, ◌-◌, ◌%◌, Bool, true, false, cond, ◌&&◌, ◌||◌, Some, None, Option, ◌==◌, nat_le, nat_lt}
use Rattle.isa.specs.declared.unit.Side.{Side}
use Rattle.isa.specs.declared.unit.Side.TheVariants.{A, B}
use Rattle.isa.specs.declared.unit.UnitKind.{UnitKind}
use Rattle.isa.specs.declared.unit.UnitKind.TheVariants.{L, S, M, D}
use Rattle.isa.specs.declared.unit.FunctionalUnit.{FunctionalUnit}
use Rattle.isa.specs.declared.unit.Units.{Units}
use Rattle.isa.specs.Bits.{is_set}

-- the number of a unit of a side whose first has the number given
abbrev pub place_on : ℕ → UnitKind → ℕ
place_on first L = first
place_on first S = first + 1
place_on first M = first + 2
place_on first D = first + 3

-- side A has the first four numbers, side B the next
abbrev pub place_by : Side → UnitKind → ℕ
place_by A k = place_on 0 k
place_by B k = place_on 4 k

-- the number of a unit from 0: .L1 .S1 .M1 .D1, then .L2 .S2 .M2 .D2
abbrev pub place : FunctionalUnit → ℕ
place f = place_by f.side f.kind

-- the unit is permitted: unit u, counted from 1, is bit u - 1 of the mask
abbrev pub permitted : Units → FunctionalUnit → Bool
permitted u f = is_set u.mask (place f)

-- a unit of that kind is permitted, on either side
abbrev pub permitted_kind : Units → UnitKind → Bool
permitted_kind u k = permitted u (record { kind = k; side = A }) || permitted u (record { kind = k; side = B })

-- a unit other than .D1 and .D2 is permitted
abbrev pub other_than_d : Units → Bool
other_than_d u = permitted_kind u L || (permitted_kind u S || permitted_kind u M)

-- at least one unit is permitted
abbrev pub some_unit : Units → Bool
some_unit u = other_than_d u || permitted_kind u D

-- the kind of a place on its side
abbrev pub kind_at : ℕ → UnitKind
kind_at n = cond (n == 0) L (cond (n == 1) S (cond (n == 2) M D))

-- the side of a unit's number
abbrev pub unit_side : ℕ → Side
unit_side n = cond (nat_lt n 5) A B

-- the unit of a number: 1 to 4 are .L1 .S1 .M1 .D1, 5 to 8 are .L2 .S2 .M2 .D2
abbrev pub unit_of : ℕ → Option FunctionalUnit
unit_of n = cond (nat_le 1 n && nat_le n 8) (Some (record { kind = kind_at ((n - 1) % 4); side = unit_side n })) None

-- the other side
abbrev pub opposite : Side → Side
opposite A = B
opposite B = A

-- the two sides are one
abbrev pub same_side : Side → Side → Bool
same_side A A = true
same_side A B = false
same_side B A = false
same_side B B = true
