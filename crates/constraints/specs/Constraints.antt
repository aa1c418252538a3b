-- The constraints 11 to 19 on a packet xs behind the packets accepted before it, past.
-- The number of the packet xs is the length of past, and it issues in the cycle after theirs.
use Rattle.std.specs.Prelude.{◌≡◌, ℕ, ◌+◌, ◌⊎◌, List, [], ◌∷◌, ◌++◌, length, Some, ◌≢◌}
use Rattle.std.specs.List.{slice_get}
use Rattle.admission.specs.declared.instruction.Instruction.{Instruction}
use Rattle.admission.specs.declared.instruction.Write.{Write}
use Rattle.runs.specs.declared.valuations.Valuations.{Valuations}
use Rattle.runs.specs.Runs.{Both}
use Rattle.claims.specs.Kinds.{SameUnit, TwoLongNops, SameDataPath, NonalignedPair, CrossOperands}
use Rattle.claims.specs.Landings.{port_claim, SamePort}
use Rattle.hazards.specs.Counts.{CrossExcess, ReadExcess}
use Rattle.constraints.specs.Schedules.{cycles, issue, Stands, Writes, May}

-- x, which issues in cycle c, and y, which issues in cycle d, write one register in one cycle
abbrev pub WriteTogether : Instruction → ℕ → Instruction → ℕ → Type 0
WriteTogether x c y d = (v w : Write) × Writes x v × Writes y w × (v.register ≡ w.register) × (c + v.delay ≡ d + w.delay)

-- some run through past and the packet behind it performs x of packet k and y of that packet
abbrev pub PerformsBoth : Valuations → Valuations → List (List Instruction) → ℕ → Instruction → Instruction → Type 0
PerformsBoth lawful start past k x y = Both lawful start (May past) (length past) k x.condition (length past) y.condition

-- by constraint n, two instructions of one packet clash
abbrev pub Beside : ℕ → Instruction → Instruction → Type 0
Beside n x y = ((n ≡ 11) × SameUnit x y) ⊎ (((n ≡ 12) × TwoLongNops x y) ⊎ (((n ≡ 13) × SameDataPath x y) ⊎ (((n ≡ 14) × NonalignedPair x y) ⊎ ((n ≡ 15) × CrossOperands x y))))

-- by constraint n, what x of packet k and y of the packet behind past have in flight clashes
abbrev pub ClashInFlight : Valuations → Valuations → List (List Instruction) → ℕ → ℕ → Instruction → Instruction → Type 0
ClashInFlight lawful start past n k x y = ((n ≡ 18) × SamePort (port_claim x (issue past k)) (port_claim y (cycles past))) ⊎ ((n ≡ 19) × WriteTogether x (issue past k) y (cycles past) × PerformsBoth lawful start past k x y)

-- by constraint n, x of packet k clashes with y of the packet behind past
abbrev pub Clash : Valuations → Valuations → List (List Instruction) → ℕ → ℕ → Instruction → Instruction → Type 0
Clash lawful start past n k x y = ((k ≡ length past) × Beside n x y) ⊎ ClashInFlight lawful start past n k x y

-- by constraint n, the instruction in slot s of packet k, accepted or the one behind, clashes with another in slot t of the packet xs behind past
abbrev pub ClashAt : Valuations → Valuations → List (List Instruction) → List Instruction → ℕ → ℕ → ℕ → ℕ → Type 0
ClashAt lawful start past xs n k s t = (x y : Instruction) × Stands (past ++ xs ∷ []) k s x × (slice_get xs t ≡ Some y) × (k ≡ length past → s ≢ t) × Clash lawful start past n k x y

-- the packet xs behind past breaks constraint n
abbrev pub Breaks : Valuations → Valuations → List (List Instruction) → List Instruction → ℕ → Type 0
Breaks lawful start past xs n = ((k s t : ℕ) × ClashAt lawful start past xs n k s t) ⊎ (((n ≡ 16) × CrossExcess xs) ⊎ ((n ≡ 17) × ReadExcess xs))
