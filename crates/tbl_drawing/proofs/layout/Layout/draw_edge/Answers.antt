use Rattle.tbl_drawing.proofs.Tapes.{draws_then, draws_same}
use Rattle.tbl_drawing.proofs.layout.Layout.draw_edge.Goals as goal

pub returns : goal.returns
returns g c = draws_same (draws_then (draws_then c.bars.ensures c.draw_dash.ensures) c.bars-2.ensures) cc
