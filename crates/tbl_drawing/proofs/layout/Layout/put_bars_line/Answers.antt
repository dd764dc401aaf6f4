use Rattle.tbl_drawing.proofs.Tapes.{draws_then, draws_same}
use Rattle.tbl_drawing.proofs.layout.Layout.put_bars_line.Goals as goal

pub returns : goal.returns
returns g c = draws_same (draws_then (draws_then c.start.ensures c.draw_bars.ensures) c.end.ensures) cc
