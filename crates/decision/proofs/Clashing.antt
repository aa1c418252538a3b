-- Tests of the kinds of clash between two instructions of one packet, and at a write port.
-- Assumes nothing.
use Rattle.std.proofs.Common.{◌≡◌, ℕ, true, cond, eqb, Some, refl, ap, ap₂}
use Rattle.isa.specs.declared.register.Register.{Register}
use Rattle.isa.specs.declared.unit.FunctionalUnit.{FunctionalUnit}
use Rattle.isa.specs.declared.unit.Side.{Side}
use Rattle.isa.specs.declared.unit.Side.TheVariants.{A, B}
use Rattle.isa.specs.declared.unit.UnitKind.{UnitKind}
use Rattle.isa.specs.declared.unit.UnitKind.TheVariants.{L, S, M, D}
use Rattle.isa.specs.Classes.{accesses}
use Rattle.isa.specs.Units.{kind_at, unit_side}
use Rattle.admission.specs.Refusals.{is_nop}
use Rattle.admission.specs.declared.instruction.Instruction.{Instruction}
use Rattle.claims.specs.declared.port.PortClaim.{PortClaim}
use Rattle.claims.specs.declared.port.PortResult.{PortResult}
use Rattle.claims.specs.declared.port.PortResult.TheVariants.{OneFourCycle, OneTwoCycle, Other}
use Rattle.claims.specs.Kinds.{SameUnit, LongNop, TwoLongNops, SameDataPath, NonalignedPair, CrossOperands}
use Rattle.claims.specs.Landings.{MayShare, SamePort}
use Rattle.constraints.specs.Constraints.{Beside}
use Rattle.decision.proofs.Deciding.{Test, like, both, all_three, either, lacks, equal, less, is_true, coded, optional, given}

abbrev pub kind_code : UnitKind → ℕ
kind_code L = 0
kind_code S = 1
kind_code M = 2
kind_code D = 3

pub kind_back : (k : UnitKind) → kind_at (kind_code k) ≡ k
kind_back L = refl
kind_back S = refl
kind_back M = refl
kind_back D = refl

abbrev pub side_code : Side → ℕ
side_code A = 0
side_code B = 5

pub side_back : (s : Side) → unit_side (side_code s) ≡ s
side_back A = refl
side_back B = refl

abbrev pub result_code : PortResult → ℕ
result_code OneFourCycle = 0
result_code OneTwoCycle = 1
result_code Other = 2

abbrev pub result_at : ℕ → PortResult
result_at n = cond (eqb n 0) OneFourCycle (cond (eqb n 1) OneTwoCycle Other)

pub result_back : (p : PortResult) → result_at (result_code p) ≡ p
result_back OneFourCycle = refl
result_back OneTwoCycle = refl
result_back Other = refl

abbrev pub one_kind : (a b : UnitKind) → Test (a ≡ b)
one_kind a b = coded kind_code kind_at kind_back a b

abbrev pub one_side : (a b : Side) → Test (a ≡ b)
one_side a b = coded side_code unit_side side_back a b

abbrev pub one_result : (a b : PortResult) → Test (a ≡ b)
one_result a b = coded result_code result_at result_back a b

abbrev pub one_unit : (a b : FunctionalUnit) → Test (a ≡ b)
one_unit a b =
    like (λ (k, s). ap₂ (λ (x : UnitKind) (y : Side). record { kind = x; side = y }) k s) (λ e. (ap (λ (u : FunctionalUnit). u.kind) e, ap (λ (u : FunctionalUnit). u.side) e))
    (both (one_kind a.kind b.kind) (one_side a.side b.side))

abbrev pub one_register : (a b : Register) → Test (a ≡ b)
one_register a b = like (λ e. ap (λ (n : ℕ). record { number = n }) e) (λ e. ap (λ (r : Register). r.number) e) (equal a.number b.number)

abbrev pub same_unit : (x y : Instruction) → Test (SameUnit x y)
same_unit x y = given (λ u. y.unit ≡ Some u) (λ u. optional one_unit y.unit (Some u)) x.unit

abbrev pub long_nop : (x : Instruction) → Test (LongNop x)
long_nop x = both (is_true (is_nop x.row.class)) (less 1 x.cycles)

abbrev pub two_long_nops : (x y : Instruction) → Test (TwoLongNops x y)
two_long_nops x y = both (long_nop x) (long_nop y)

abbrev pub same_data_path : (x y : Instruction) → Test (SameDataPath x y)
same_data_path x y = all_three (is_true (accesses x.row.class)) (is_true (accesses y.row.class)) (one_side x.path y.path)

abbrev pub nonaligned_pair : (x y : Instruction) → Test (NonalignedPair x y)
nonaligned_pair x y =
    all_three (is_true (accesses x.row.class)) (is_true (accesses y.row.class)) (either (is_true x.row.nonaligned) (is_true y.row.nonaligned))

-- what is left of CrossOperands where the units are known
abbrev pub Crossed : Instruction → Instruction → FunctionalUnit → FunctionalUnit → Type 0
Crossed x y u v = ((u.side ≡ v.side) × (x.cross ≡ true)) × ((y.cross ≡ true) × (x.s2 ≡ y.s2 → ⊥))

abbrev pub crossed : (x y : Instruction) (u v : FunctionalUnit) → Test (Crossed x y u v)
crossed x y u v = both (both (one_side u.side v.side) (is_true x.cross)) (both (is_true y.cross) (lacks (optional one_register x.s2 y.s2)))

abbrev pub cross_operands : (x y : Instruction) → Test (CrossOperands x y)
cross_operands x y =
    like (λ (u, p, (v, q, ((e, a), (b, d)))). (u, v, p, q, e, a, b, d)) (λ (u, v, p, q, e, a, b, d). (u, p, (v, q, ((e, a), (b, d)))))
    (given (λ u. (v : FunctionalUnit) × (y.unit ≡ Some v) × Crossed x y u v) (λ u. given (Crossed x y u) (crossed x y u) y.unit) x.unit)

abbrev pub beside : (n : ℕ) (x y : Instruction) → Test (Beside n x y)
beside n x y =
    either (both (equal n 11) (same_unit x y))
    (either (both (equal n 12) (two_long_nops x y))
    (either (both (equal n 13) (same_data_path x y))
    (either (both (equal n 14) (nonaligned_pair x y)) (both (equal n 15) (cross_operands x y)))))

abbrev pub may_share : (p q : PortResult) → Test (MayShare p q)
may_share p q = either (both (one_result p OneFourCycle) (one_result q OneTwoCycle)) (both (one_result p OneTwoCycle) (one_result q OneFourCycle))

abbrev pub same_port : (a b : PortClaim) → Test (SamePort a b)
same_port a b =
    like (λ (s, p, (q, e, d)). (s, p, q, e, d)) (λ (s, p, q, e, d). (s, p, (q, e, d)))
    (given (λ s. (b.side ≡ Some s) × (a.landing ≡ b.landing) × (MayShare a.result b.result → ⊥))
    (λ s. all_three (optional one_side b.side (Some s)) (equal a.landing b.landing) (lacks (may_share a.result b.result))) a.side)
