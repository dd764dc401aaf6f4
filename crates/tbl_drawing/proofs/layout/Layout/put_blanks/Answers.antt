use Rattle.tbl_drawing.proofs.Tapes.{draws_same}
use Rattle.tbl_drawing.proofs.layout.Layout.put_blanks.Goals as goal

pub returns : goal.returns
returns g c = draws_same c.repeat.ensures cc
