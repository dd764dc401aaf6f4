use Rattle.std.proofs.Common.{◌≡◌, ◌-◌, ◌≤◌, max}
use Rattle.tbl_columns.specs.Columns.{together}
use Rattle.tbl_columns.proofs.grid.Grid.span_width.Given as goal

abbrev pub invariant-loop-number : goal.invariant-loop-number
invariant-loop-number l = record {
  value : l.width ≡ together (l.number - l.first) l.self l.first l.last;
  within : l.number ≤ max l.first l.number-end;
}
