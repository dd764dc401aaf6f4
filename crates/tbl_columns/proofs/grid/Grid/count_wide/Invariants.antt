use Rattle.std.proofs.Common.{◌≡◌, drop}
use Rattle.tbl_columns.specs.Shares.{count_wide, wide_columns}
use Rattle.tbl_columns.proofs.grid.Grid.count_wide.Given as goal

abbrev pub invariant-loop-column : goal.invariant-loop-column
invariant-loop-column l = count_wide l.count (drop l.column-index l.self.columns.items) ≡ wide_columns l.self
