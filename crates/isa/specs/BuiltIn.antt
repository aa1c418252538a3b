-- The built-in rows, by operation number.
use Rattle.std.specs.Prelude.{ℕ, Bool, true, false, List, [], ◌∷◌, Option}
use Rattle.std.specs.List.{slice_get}
use Rattle.isa.specs.declared.class.Class.{Class}
use Rattle.isa.specs.declared.class.Class.TheVariants.{Nop, SingleCycle, TwoCycle, FourCycle, Load, Store}
use Rattle.isa.specs.declared.width.Width.{Width}
use Rattle.isa.specs.declared.width.Width.TheVariants.{Absent, Single, Pair}
use Rattle.isa.specs.declared.row.Row.{Row}

-- a row by its columns: class, units as a mask, nonaligned, widths of s1, s2 and dst
abbrev row : Class → ℕ → Bool → Width → Width → Width → Row
row k mask n a b d = record { class = k; units = record { mask = mask }; nonaligned = n; s1 = a; s2 = b; dst = d }

-- the mask of .L, .S and .D on both sides
abbrev lsd : ℕ
lsd = 0b1011_1011

-- of .S on both sides
abbrev s : ℕ
s = 0b0010_0010

-- of .M on both sides
abbrev m : ℕ
m = 0b0100_0100

-- of .D on both sides
abbrev d : ℕ
d = 0b1000_1000

-- the twenty-two rows, from operation 0 on
abbrev pub built_in : List Row
built_in =
    row Nop 0 false Absent Absent Absent  -- 0 NOP
    ∷ row SingleCycle lsd false Single Single Single  -- 1 ADD
    ∷ row SingleCycle lsd false Single Single Single  -- 2 SUB
    ∷ row SingleCycle lsd false Single Single Single  -- 3 AND
    ∷ row SingleCycle lsd false Absent Single Single  -- 4 MV
    ∷ row SingleCycle s false Single Single Single  -- 5 SHL
    ∷ row SingleCycle s false Single Single Single  -- 6 SHR
    ∷ row TwoCycle m false Single Single Single  -- 7 MPY
    ∷ row FourCycle m false Single Single Pair  -- 8 SMPY2
    ∷ row FourCycle m false Single Single Single  -- 9 DOTP2
    ∷ row TwoCycle m false Single Single Single  -- 10 AVG2
    ∷ row Load d false Single Single Single  -- 11 LDW
    ∷ row Load d false Single Single Single  -- 12 LDB
    ∷ row Load d true Single Single Single  -- 13 LDNW
    ∷ row Load d false Single Single Pair  -- 14 LDDW
    ∷ row Store d false Single Single Single  -- 15 STW
    ∷ row Store d false Single Single Single  -- 16 STB
    ∷ row Store d true Single Single Single  -- 17 STNW
    ∷ row Store d false Single Single Pair  -- 18 STDW
    ∷ row Store d true Single Single Pair  -- 19 STNDW
    ∷ row SingleCycle s false Single Single Single  -- 20 CMPGT2
    ∷ row TwoCycle m false Single Single Single  -- 21 AVGU4
    ∷ []

-- the row of operation n is the one at place n
abbrev pub built_in_map : ℕ → Option Row
built_in_map n = slice_get built_in n
