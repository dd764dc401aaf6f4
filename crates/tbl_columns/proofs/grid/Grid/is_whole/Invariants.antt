use Rattle.std.proofs.Common.{◌≡◌, ◌-◌}
use Rattle.tbl_columns.specs.Cells.{is_whole, stands_over}
use Rattle.tbl_columns.proofs.grid.Grid.is_whole.Given as goal

abbrev pub invariant-loop-column : goal.invariant-loop-column
invariant-loop-column l = stands_over (l.column-end - l.column) l.self l.row l.number l.column ≡ is_whole l.self l.row l.number
