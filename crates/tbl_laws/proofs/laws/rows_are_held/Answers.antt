use Rattle.tbl_laws.proofs.HeldLaw.{rows_are_held}
use Rattle.tbl_laws.proofs.laws.rows_are_held.Goals as goal

pub returns : goal.returns
returns c = rows_are_held
