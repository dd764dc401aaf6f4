use Rattle.std.proofs.Common.{◌-◌, ◌≤◌, max}
use Rattle.tbl_drawing.specs.Drawing.{more_lines}
use Rattle.tbl_drawing.specs.Tapes.{Draws}
use Rattle.tbl_drawing.proofs.layout.Layout.put_row.Given as goal

abbrev pub invariant-loop-more : goal.invariant-loop-more
invariant-loop-more g l = record {
  draws : Draws l.initial.out l.out (more_lines (l.more - 1) l.self l.row l.line);
  within : l.more ≤ max 1 l.more-end;
}
