use Rattle.tbl_drawing.proofs.Tapes.{draws_then}
use Rattle.tbl_drawing.proofs.writing.Out.dash.Goals as goal

pub returns : goal.returns
returns g c = draws_then c.release.ensures c.dash_to.ensures
