use Rattle.tbl_drawing.proofs.Tapes.{draws_then, draws_same}
use Rattle.tbl_drawing.proofs.layout.Layout.draw_row.Goals as goal

pub returns : goal.returns
returns g c = draws_same (draws_then c.draw_cells.ensures c.end_row_bar.ensures) cc
