use Rattle.std.proofs.Common.{◌≡◌, max, drop}
use Rattle.tbl_columns.specs.Columns.{widest_of}
use Rattle.tbl_columns.proofs.grid.Grid.widest_equal.Given as goal

abbrev pub invariant-loop-column : goal.invariant-loop-column
invariant-loop-column l = max (widest_of (drop l.column-index l.self.columns.items)) l.most ≡ widest_of l.self.columns.items
