use Rattle.std.proofs.Common.{◌≡◌}
use Rattle.tbl_columns.specs.Columns.{gap_given}
use Rattle.tbl_columns.proofs.grid.Grid.gap_given.Given as goal

abbrev pub invariant-loop-line : goal.invariant-loop-line
invariant-loop-line l = l.gap ≡ gap_given l.line l.self l.number
