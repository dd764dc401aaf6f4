use Rattle.std.proofs.Common.{◌≡◌, ◌-◌}
use Rattle.tbl_columns.specs.Held.{columns}
use Rattle.tbl_drawing.specs.Steps.{some_covered}
use Rattle.tbl_drawing.proofs.layout.Layout.some_covered.Given as goal

abbrev pub invariant-loop-column : goal.invariant-loop-column
invariant-loop-column l = some_covered (l.column-end - l.column) l.self l.above l.below l.column ≡ some_covered (columns l.self.grid) l.self l.above l.below 0
