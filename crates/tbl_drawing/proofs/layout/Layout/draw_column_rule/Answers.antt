use Rattle.tbl_drawing.proofs.Tapes.{draws_then}
use Rattle.tbl_drawing.proofs.layout.Layout.draw_column_rule.Goals as goal

pub returns : goal.returns
returns g c =
    rw c.column.ensures at (rw c.saturating_add.ensures at (draws_then (draws_then c.begin_rule.ensures c.draw_dash.ensures) c.end_column_rule.ensures))
