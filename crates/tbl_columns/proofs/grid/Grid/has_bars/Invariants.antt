use Rattle.std.proofs.Common.{◌≡◌, ◌-◌}
use Rattle.tbl_columns.specs.Frames.{has_bars, some_bars}
use Rattle.tbl_columns.proofs.grid.Grid.has_bars.Given as goal

abbrev pub invariant-loop-column : goal.invariant-loop-column
invariant-loop-column l = some_bars (l.column-end - l.column) l.self l.row l.column ≡ has_bars l.self l.row
