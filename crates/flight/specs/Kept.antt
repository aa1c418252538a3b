-- What the numbers and entries kept of accepted packets stand for.
use Rattle.std.specs.Prelude.{◌≡◌, ℕ, ◌<◌, ◌≤◌, List, [], ◌∷◌, ◌++◌, map, length}
use Rattle.std.specs.List.{AllByRecursion}
use Rattle.admission.specs.declared.instruction.Instruction.{Instruction}
use Rattle.runs.specs.declared.valuations.Valuations.{Valuations}
use Rattle.runs.specs.Runs.{Carries, Reaches}
use Rattle.constraints.specs.Schedules.{cycles, May}
use Rattle.flight.specs.declared.issued.InFlight.{InFlight}
use Rattle.flight.specs.declared.history.History.{History}
use Rattle.flight.specs.Issues.{positions, kept}

-- the entry's set holds just the valuations that the packet behind past has in the runs that perform the entry's instruction
abbrev pub Performed : Valuations → Valuations → List (List Instruction) → InFlight → Type 0
Performed lawful start past e = Carries lawful start (May past) (length past) e.issued.place.packet e.issued.instruction.condition e.performed

-- the entries are the instructions of a schedule that may still have something to land in cycle c, or had it in the cycle before
abbrev pub FlightOf : List (List Instruction) → ℕ → List InFlight → Type 0
FlightOf ps c es = map (λ e. e.issued) es ≡ kept c (positions 0 0 ps)

-- what is kept stands for the packets past, with runs that begin at start
pub record StandsFor (h : History) (start : Valuations) (past : List (List Instruction)) : Type 0 where
  pub many : h.packets ≡ length past
  pub time : h.cycle ≡ cycles past
  pub narrow : AllByRecursion (λ p. length p ≤ 8) past
  pub reached : Reaches h.lawful start (May past) (length past) h.reachable
  pub flying : FlightOf past (cycles past) h.flight
  pub performed : AllByRecursion (Performed h.lawful start past) h.flight

-- the entries are those in flight behind past, and then the packet xs
pub record Joined (lawful start : Valuations) (past : List (List Instruction)) (xs : List Instruction) (es : List InFlight) : Type 0 where
  pub flying : FlightOf (past ++ xs ∷ []) (cycles past) es
  pub performed : AllByRecursion (Performed lawful start past) es

-- with the packet xs accepted, h has become one that stands for the packets as before and then xs
pub record Accepts (h : History) (xs : List Instruction) (after : History) : Type 0 where
  pub room : h.packets < 512
  pub lawful : after.lawful ≡ h.lawful
  pub stands : (start : Valuations) (past : List (List Instruction)) → StandsFor h start past → StandsFor after start (past ++ xs ∷ [])
