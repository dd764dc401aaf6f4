use Rattle.tbl_drawing.proofs.Tapes.{draws_then}
use Rattle.tbl_drawing.proofs.writing.Out.begin.Goals as goal

pub returns : goal.returns
returns g c = draws_then (draws_then c.release.ensures c.guard.ensures) c.mark_begun.ensures
