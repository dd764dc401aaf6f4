use Rattle.tbl_drawing.proofs.Tapes.{draws_then}
use Rattle.tbl_drawing.proofs.writing.Out.fill.Goals as goal

pub returns : goal.returns
returns g c = draws_then c.begin.ensures c.fill_to.ensures
