use Rattle.tbl_drawing.proofs.Tapes.{draws_then, draws_same}
use Rattle.tbl_drawing.proofs.layout.Layout.draw_some_bars.Goals as goal

pub returns : goal.returns
returns g c = draws_same (draws_then c.go.ensures c.bars.ensures) cc
