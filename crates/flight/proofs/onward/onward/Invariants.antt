use Rattle.std.proofs.Common.{◌≡◌, ◌≤◌, List, [], ◌∷◌, ◌++◌, map, length, take}
use Rattle.std.specs.List.{AllByRecursion as All}
use Rattle.admission.specs.declared.instruction.Instruction.{Instruction}
use Rattle.runs.specs.declared.valuations.Valuations.{Valuations}
use Rattle.flight.specs.Issues.{kept}
use Rattle.flight.specs.Kept.{Performed}
use Rattle.flight.proofs.Stepping.{Masks}
use Rattle.flight.proofs.onward.onward.Given as goal

abbrev pub invariant-loop-entry : goal.invariant-loop-entry
invariant-loop-entry l =
    (map (λ e. e.issued) l.list ≡ take 40 (kept l.cycle (map (λ e. e.issued) (take l.entry-index l.entries))))
    × ((start : Valuations) (past : List (List Instruction)) (xs : List Instruction) → Masks l.changes past xs
    → All (λ e. e.issued.place.packet ≤ length past) l.entries → All (Performed l.lawful start past) l.entries
    → All (Performed l.lawful start (past ++ xs ∷ [])) l.list)
