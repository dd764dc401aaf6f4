use Rattle.std.proofs.Common.{arith}
use Rattle.std.proofs.lemmas.Grind.{common_steps}
use Rattle.tbl_columns.proofs.grid.Grid.bars_beside.Goals as goal

pub returns-then-bars-gt0 : goal.returns-then-bars-gt0
returns-then-bars-gt0 c = grind (arith, common_steps)

pub returns : goal.returns
returns c = grind (arith, common_steps)
