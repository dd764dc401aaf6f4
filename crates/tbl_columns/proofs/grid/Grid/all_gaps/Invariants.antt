use Rattle.std.proofs.Common.{◌≡◌}
use Rattle.tbl_columns.specs.Shares.{all_gaps}
use Rattle.tbl_columns.proofs.grid.Grid.all_gaps.Given as goal

abbrev pub invariant-loop-number : goal.invariant-loop-number
invariant-loop-number l = l.all ≡ all_gaps l.number l.self
