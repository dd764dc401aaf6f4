use Rattle.std.proofs.Common.{◌≡◌}
use Rattle.tbl_columns.specs.Frames.{most_bars_in}
use Rattle.tbl_columns.proofs.grid.Grid.most_bars.Given as goal

abbrev pub invariant-loop-line : goal.invariant-loop-line
invariant-loop-line l = l.bars ≡ most_bars_in l.line l.self l.column
