use Rattle.std.proofs.Common.{ℕ, ap, add-one}
use Rattle.tbl_drawing.specs.Drawing.{row_cells}
use Rattle.tbl_drawing.proofs.Tapes.{draws_nothing, draws_same, draws_then}
use Rattle.tbl_drawing.proofs.layout.Layout.draw_cells.Goals as goal

pub loop-column-init : goal.loop-column-init
loop-column-init g c = draws_nothing _

pub loop-column-preserved : goal.loop-column-preserved
loop-column-preserved g c = draws_same (draws_then c.loop-column.invariant c.draw_cell.ensures) (ap (λ (m : ℕ). row_cells m c.args.self.now c.args.row c.args.line) (add-one c.loop-column.column))
