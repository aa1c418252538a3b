-- The row of an admitted record is the one that it was held against. Assumes nothing.
use Rattle.std.proofs.Common.{◌≡◌, true, IfOk, Some, Ok, Err, Result, ap, ◌∙◌}
use Rattle.isa.specs.declared.record.Record.{Record}
use Rattle.isa.specs.declared.refusal.Refusal.{Refusal}
use Rattle.isa.specs.declared.row.Row.{Row}
use Rattle.isa.specs.Rows.{keeps_rule}
use Rattle.admission.specs.declared.instruction.Instruction.{Instruction}
use Rattle.admission.specs.Instructions.{Admits}

pub lawful_row_lem : (w : Row) (r : Record) (a : Result Instruction Refusal) → keeps_rule w ≡ true → Admits (Some w) r a → IfOk a (λ i. keeps_rule i.row ≡ true)
lawful_row_lem w r (Ok i) k h = ap (λ j. keeps_rule j.row) h.0 ∙ k
lawful_row_lem w r (Err e) k h = tt
