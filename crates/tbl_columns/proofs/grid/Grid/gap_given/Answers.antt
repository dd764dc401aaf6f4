use Rattle.std.proofs.Common.{add-one}
use Rattle.tbl_columns.proofs.grid.Grid.gap_given.Goals as goal

pub loop-line-preserved : goal.loop-line-preserved
loop-line-preserved c = rw (add-one c.loop-line.line) cc
