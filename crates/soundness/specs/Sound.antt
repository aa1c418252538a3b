-- The packets that a book accepted: no cycle is overclaimed, and no run performs two writes of a register that land together.
use Rattle.std.specs.Prelude.{◌≡◌, ℕ, ◌-◌, ◌^◌, ◌<◌, ◌⊎◌, List, length, Some, Result, ◌≢◌}
use Rattle.std.specs.List.{slice_get}
use Rattle.admission.specs.declared.instruction.Instruction.{Instruction}
use Rattle.runs.specs.declared.valuations.Valuations.{Valuations}
use Rattle.runs.specs.Runs.{Run}
use Rattle.runs.specs.Valuations.{Meets}
use Rattle.claims.specs.Kinds.{SameUnit, SameDataPath, NonalignedPair, CrossOperands}
use Rattle.claims.specs.Landings.{port_claim, SamePort}
use Rattle.hazards.specs.Counts.{CrossExcess, ReadExcess}
use Rattle.constraints.specs.declared.fault.Fault.{Fault}
use Rattle.constraints.specs.Schedules.{issue, Stands, May}
use Rattle.constraints.specs.Constraints.{WriteTogether}
use Rattle.book.specs.declared.calls.Call.{Call}
use Rattle.book.specs.declared.calls.Answer.{Answer}
use Rattle.book.specs.Books.{Rules, opened, SaysAll, after_all}

-- two instructions of a packet claim a unit, a data path or memory, or two operands over one cross path
abbrev pub TwoClaim : List Instruction → Type 0
TwoClaim p = (s t : ℕ) × (x y : Instruction) × (slice_get p s ≡ Some x) × (slice_get p t ≡ Some y) × (s ≢ t) × (SameUnit x y ⊎ (SameDataPath x y ⊎ (NonalignedPair x y ⊎ CrossOperands x y)))

-- a packet claims more than the chip has in one cycle: a unit, a data path, memory, a cross path, or reads of a register
abbrev pub Overclaims : List Instruction → Type 0
Overclaims p = TwoClaim p ⊎ (CrossExcess p ⊎ ReadExcess p)

-- run is a run of the packets ps
abbrev pub RunOf : Valuations → List (List Instruction) → (ℕ → ℕ) → Type 0
RunOf lawful ps run = Run lawful lawful (May ps) (length ps - 1) run

-- what holds of accepted packets
pub record Sound (lawful : Valuations) (ps : List (List Instruction)) : Type 0 where
  -- no packet claims more than the chip has
  pub claims : (k : ℕ) (p : List Instruction) → slice_get ps k ≡ Some p → Overclaims p → ⊥
  -- no two results meet at a write port
  pub ports : (k s l t : ℕ) (x y : Instruction) → Stands ps k s x → Stands ps l t y → (k ≡ l → s ≢ t) → SamePort (port_claim x (issue ps k)) (port_claim y (issue ps l)) → ⊥
  -- in no run do two performed writes of a register land in one cycle
  pub writes : (run : ℕ → ℕ) → RunOf lawful ps run → (k s l t : ℕ) (x y : Instruction) → Stands ps k s x → Stands ps l t y → (k ≡ l → s ≢ t)
      → WriteTogether x (issue ps k) y (issue ps l) → Meets x.condition (run k) → Meets y.condition (run l) → ⊥

-- whatever is asked of a new book, the packets that it accepted are sound
abbrev pub AcceptedSound : Type 0
AcceptedSound = (k : Rules) (cs : List Call) (vs : List (Result Answer Fault)) → SaysAll k (opened k.lawful) cs vs → Sound k.lawful (after_all k (opened k.lawful) cs vs).accepted

-- packets have a run, unless no valuation is lawful
abbrev pub SomeRun : Type 0
SomeRun = (lawful : Valuations) (ps : List (List Instruction)) → lawful.bits < 2 ^ 64 → (lawful.bits ≢ 0) → (run : ℕ → ℕ) × RunOf lawful ps run
