use Rattle.std.proofs.Common.{rules}
use Rattle.admission.proofs.Admitted.{lawful_row_lem}
use Rattle.admission.proofs.admit.admit.Goals as goal

pub returns-clause-lawful : goal.returns-clause-lawful
returns-clause-lawful g c =
    let r = c.args.«record» in
    lawful_row_lem c.in_ok-row.row r c.admit_on.result (g.met.R.Repertoire.lawful c.args.repertoire.now r.operation c.in_ok-row.row (search rules)) c.admit_on.ensures.admits
