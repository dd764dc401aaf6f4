use Rattle.std.proofs.Common.{◌≡◌}
use Rattle.tbl_columns.specs.Columns.{keyed}
use Rattle.tbl_columns.proofs.grid.Grid.keyed.Given as goal

abbrev pub invariant-loop-line : goal.invariant-loop-line
invariant-loop-line l = l.column ≡ keyed l.line l.self l.number
