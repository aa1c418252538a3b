-- How a refusal is printed.
use Rattle.std.specs.Prelude.{ℕ, List, ◌++◌, codes, decimal}
use Rattle.isa.specs.Refusals.{number}
use Rattle.constraints.specs.declared.fault.Fault.{Fault}
use Rattle.constraints.specs.declared.fault.Place.{Place}

-- `packet P slot S`
abbrev pub place_text : Place → List ℕ
place_text p = codes "packet " ++ (decimal p.packet ++ (codes " slot " ++ decimal p.slot))

-- `refused N packet P slot S with packet P slot S`, the later place first
abbrev pub fault_text : Fault → List ℕ
fault_text f = codes "refused " ++ (decimal (number f.refusal) ++ (codes " " ++ (place_text f.later ++ (codes " with " ++ place_text f.earlier))))
