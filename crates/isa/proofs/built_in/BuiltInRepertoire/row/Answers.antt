use Rattle.isa.specs.BuiltIn.{built_in}
use Rattle.isa.proofs.Gets.{copied_get}
use Rattle.isa.proofs.built_in.BuiltInRepertoire.row.Goals as goal

pub returns : goal.returns
returns c = let e = copied_get built_in c.from.result c.get.result c.get.ensures.lookup in let f = c.from.ensures in cc
