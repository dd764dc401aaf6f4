use Rattle.tbl_drawing.proofs.Tapes.{draws_then}
use Rattle.tbl_drawing.proofs.layout.Layout.draw_rule_cell.Goals as goal

pub returns : goal.returns
returns g c = draws_then (draws_then c.draw_crossing.ensures c.draw_going_on.ensures) c.go_over.ensures
