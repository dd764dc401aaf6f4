use Rattle.tbl_drawing.specs.Drawing.{bars_lines}
use Rattle.tbl_drawing.specs.Tapes.{Draws}
use Rattle.tbl_drawing.proofs.layout.Layout.put_bars.Given as goal

abbrev pub invariant-loop-place : goal.invariant-loop-place
invariant-loop-place g l = Draws l.initial.out l.out (bars_lines l.place l.self l.row l.line)
