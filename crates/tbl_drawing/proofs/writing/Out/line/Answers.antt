use Rattle.tbl_drawing.proofs.Tapes.{draws_both}
use Rattle.tbl_drawing.proofs.writing.Out.line.Goals as goal

pub returns : goal.returns
returns g c = draws_both c.pieces.ensures c.ask.ensures
