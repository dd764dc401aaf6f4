use Rattle.std.proofs.Common.{◌≡◌, ◌+◌, ◌-◌, ◌<◌}
use Rattle.tbl_columns.specs.Cells.{goes_over, last_column}
use Rattle.tbl_columns.specs.Held.{columns}
use Rattle.tbl_columns.proofs.grid.Grid.last_column.Given as goal

abbrev pub invariant-loop-column : goal.invariant-loop-column
invariant-loop-column l = record {
  over : goes_over (columns l.self - l.column) l.self l.line l.last ≡ last_column l.self l.line l.first;
  next : l.column < columns l.self → l.last + 1 ≡ l.column;
}
