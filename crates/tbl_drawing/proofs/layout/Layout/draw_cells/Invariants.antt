use Rattle.tbl_drawing.specs.Drawing.{row_cells}
use Rattle.tbl_drawing.specs.Tapes.{Draws}
use Rattle.tbl_drawing.proofs.layout.Layout.draw_cells.Given as goal

abbrev pub invariant-loop-column : goal.invariant-loop-column
invariant-loop-column g l = Draws l.initial.out l.out (row_cells l.column l.self l.row l.line)
