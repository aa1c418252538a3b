-- Instructions: what an admitted record means, by typed fields.
use Rattle.std.specs.Prelude.{◌≡◌, ℕ, Some, None, Option, Result, MatchResult}
use Rattle.std.specs.Option.{unwrap_or}
use Rattle.isa.specs.declared.condition.Condition.TheVariants.{Always}
use Rattle.isa.specs.declared.record.Record.{Record}
use Rattle.isa.specs.declared.refusal.Refusal.{Refusal}
use Rattle.isa.specs.declared.row.Row.{Row}
use Rattle.isa.specs.Conditions.{condition_of}
use Rattle.isa.specs.Refusals.{number}
use Rattle.isa.specs.Registers.{register_of}
use Rattle.isa.specs.Units.{unit_of}
use Rattle.admission.specs.declared.instruction.Instruction.{Instruction}
use Rattle.admission.specs.Refusals.{flag_x, flag_u, path_of, RefusedBy, Least}

-- the instruction of a record on its row
abbrev pub instruction : Row → Record → Instruction
instruction w r = record { row = w; unit = unit_of r.unit; condition = unwrap_or (condition_of r.condition) Always; cross = flag_x r; path = path_of r; update = flag_u r; s1 = register_of r.s1; s2 = register_of r.s2; dst = register_of r.dst; cycles = r.count }

-- the record has a row, and that is its instruction
abbrev pub Means : Option Row → Record → Instruction → Type 0
Means None r i = ⊥
Means (Some w) r i = i ≡ instruction w r

-- what is answered to a record whose operation has that row or none: the instruction where nothing refuses it, else the least number that does
abbrev pub Admits : Option Row → Record → Result Instruction Refusal → Type 0
Admits o r a = MatchResult a (λ i. Means o r i × ((n : ℕ) → RefusedBy o r n → ⊥)) (λ e. Least (RefusedBy o r) (number e))
