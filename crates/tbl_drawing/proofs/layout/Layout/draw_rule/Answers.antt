use Rattle.tbl_drawing.proofs.Tapes.{draws_then}
use Rattle.tbl_drawing.proofs.layout.Layout.draw_rule.Goals as goal

pub returns : goal.returns
returns g c = draws_then (draws_then c.draw_rule_cells.ensures c.go_end.ensures) c.end_rule.ensures
