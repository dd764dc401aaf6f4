use Rattle.tbl_drawing.proofs.Tapes.{draws_same}
use Rattle.tbl_drawing.proofs.layout.Layout.go_over.Goals as goal

pub returns : goal.returns
returns g c = draws_same c.go.ensures cc
