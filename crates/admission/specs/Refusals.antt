-- The refusals 4 to 8 of a record on its row.
-- Each is a test of its own; the first that applies, by number, is the one reported.
use Rattle.std.specs.Prelude.{◌≡◌, ℕ, ◌%◌, ◌<◌, Bool, true, false, cond, not, ◌&&◌, ◌||◌, ◌⊎◌, is_some, Some, None, Option, ◌==◌, nat_le, nat_lt}
use Rattle.isa.specs.declared.class.Class.{Class}
use Rattle.isa.specs.declared.class.Class.TheVariants.{Nop, SingleCycle, TwoCycle, FourCycle, Load, Store}
use Rattle.isa.specs.declared.record.Record.{Record}
use Rattle.isa.specs.declared.register.Register.{Register}
use Rattle.isa.specs.declared.row.Row.{Row}
use Rattle.isa.specs.declared.unit.FunctionalUnit.{FunctionalUnit}
use Rattle.isa.specs.declared.unit.Side.{Side}
use Rattle.isa.specs.declared.unit.Side.TheVariants.{A, B}
use Rattle.isa.specs.declared.unit.Units.{Units}
use Rattle.isa.specs.declared.width.Width.{Width}
use Rattle.isa.specs.declared.width.Width.TheVariants.{Absent, Single, Pair}
use Rattle.isa.specs.Classes.{accesses}
use Rattle.isa.specs.Conditions.{condition_of}
use Rattle.isa.specs.Records.{flags_of}
use Rattle.isa.specs.Registers.{register_of, side_of}
use Rattle.isa.specs.Units.{permitted, unit_of, unit_side, opposite, same_side}
use Rattle.isa.specs.Widths.{is_single}

-- a byte that is neither a register, 0 to 63, nor absent, 255
abbrev pub no_register : ℕ → Bool
no_register n = nat_le 64 n && nat_lt n 255

-- the operation is a NOP
abbrev pub is_nop : Class → Bool
is_nop Nop = true
is_nop SingleCycle = false
is_nop TwoCycle = false
is_nop FourCycle = false
is_nop Load = false
is_nop Store = false

-- a NOP counts 1 to 9 cycles, and no other operation has a count
abbrev pub wrong_count : Class → ℕ → Bool
wrong_count k n = cond (is_nop k) (nat_lt n 1 || nat_lt 9 n) (not (n == 0))

-- 4: unit over 8, flags or condition over 15, a register byte from 64 to 254, a wrong count
abbrev pub out_of_range : Row → Record → Bool
out_of_range w r = nat_lt 8 r.unit || (nat_lt 15 r.flags || (nat_lt 15 r.condition || (no_register r.s1 || (no_register r.s2 || (no_register r.dst || wrong_count w.class r.count)))))

-- 5: a condition that names no register, or any on a NOP
abbrev pub condition_forbidden : Row → Record → Bool
condition_forbidden w r = cond (is_nop w.class) (not (r.condition == 0)) (not (is_some (condition_of r.condition)))

-- the unit is one that is permitted
abbrev pub permitted_unit : Units → Option FunctionalUnit → Bool
permitted_unit u None = false
permitted_unit u (Some f) = permitted u f

-- 6: a unit that is not permitted, or any on a NOP
abbrev pub unit_forbidden : Row → Record → Bool
unit_forbidden w r = cond (is_nop w.class) (not (r.unit == 0)) (not (permitted_unit w.units (unit_of r.unit)))

-- s2 or dst is absent where there is one, present where there is none, or an odd pair
abbrev pub wrong_operand : Width → ℕ → Bool
wrong_operand Absent n = not (n == 255)
wrong_operand Single n = n == 255
wrong_operand Pair n = n == 255 || n % 2 == 1

-- the same of s1, which is a constant where it is absent
abbrev pub wrong_first : Width → ℕ → Bool
wrong_first Absent n = not (n == 255)
wrong_first Single n = false
wrong_first Pair n = not (n == 255) && n % 2 == 1

-- 7: an operand that does not suit its width
abbrev pub operand_mismatch : Row → Record → Bool
operand_mismatch w r = wrong_first w.s1 r.s1 || (wrong_operand w.s2 r.s2 || wrong_operand w.dst r.dst)

-- X is set
abbrev pub flag_x : Record → Bool
flag_x r = (flags_of r.flags).x

-- T is set
abbrev pub flag_t : Record → Bool
flag_t r = (flags_of r.flags).t

-- U is set
abbrev pub flag_u : Record → Bool
flag_u r = (flags_of r.flags).u

-- X is taken by single, two and four cycle operations whose s2 is one register
abbrev pub takes_x : Row → Bool
takes_x w = not (is_nop w.class) && (not (accesses w.class) && is_single w.s2)

-- a flag is set that the row does not take; T and U are taken by loads and stores
abbrev pub flag_forbidden : Row → Record → Bool
flag_forbidden w r = (flag_x r && not (takes_x w)) || ((flag_t r || flag_u r) && not (accesses w.class))

-- an operand is present, and on the other side
abbrev pub elsewhere : Option Register → Side → Bool
elsewhere None s = false
elsewhere (Some r) s = not (same_side (side_of r) s)

-- the operand of a byte is present, and on the other side
abbrev pub wrong_side : ℕ → Side → Bool
wrong_side n s = elsewhere (register_of n) s

-- the side of T
abbrev pub path_of : Record → Side
path_of r = cond (flag_t r) B A

-- s2 comes from the unit's side, or from the other one with X
abbrev pub side_of_s2 : Record → Side
side_of_s2 r = cond (flag_x r) (opposite (unit_side r.unit)) (unit_side r.unit)

-- dst is on the unit's side, that of a load or store on the side of T
abbrev pub side_of_dst : Row → Record → Side
side_of_dst w r = cond (accesses w.class) (path_of r) (unit_side r.unit)

-- 8: an operand on the wrong side, or a flag that is not taken
abbrev pub side_or_flag : Row → Record → Bool
side_or_flag w r = flag_forbidden w r || (wrong_side r.s1 (unit_side r.unit) || (wrong_side r.s2 (side_of_s2 r) || wrong_side r.dst (side_of_dst w r)))

-- a record on its row is refused by n
abbrev pub Unfit : Row → Record → ℕ → Type 0
Unfit w r n = ((n ≡ 4) × (out_of_range w r ≡ true)) ⊎ (((n ≡ 5) × (condition_forbidden w r ≡ true)) ⊎ (((n ≡ 6) × (unit_forbidden w r ≡ true)) ⊎ (((n ≡ 7) × (operand_mismatch w r ≡ true)) ⊎ ((n ≡ 8) × (side_or_flag w r ≡ true)))))

-- a record is refused by n: by 3 where there is no row, else on its row
abbrev pub RefusedBy : Option Row → Record → ℕ → Type 0
RefusedBy None r n = n ≡ 3
RefusedBy (Some w) r n = Unfit w r n

-- the least number that a property has
abbrev pub Least : (ℕ → Type 0) → ℕ → Type 0
Least P n = P n × ((k : ℕ) → k < n → P k → ⊥)
