use Rattle.std.proofs.Common.{◌≡◌, drop}
use Rattle.tbl_columns.specs.Shares.{wide_rest, widths_of_wide}
use Rattle.tbl_columns.proofs.grid.Grid.wide_rest.Given as goal

abbrev pub invariant-loop-column : goal.invariant-loop-column
invariant-loop-column l = widths_of_wide l.rest (drop l.column-index l.self.columns.items) ≡ wide_rest l.self
