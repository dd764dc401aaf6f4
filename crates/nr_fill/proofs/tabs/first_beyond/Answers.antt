use Rattle.std.proofs.Common.{arith}
use Rattle.std.proofs.lemmas.Grind.{common_steps}
use Rattle.nr_fill.proofs.tabs.first_beyond.Goals as goal

pub returns-then-stop-column : goal.returns-then-stop-column
returns-then-stop-column c = grind (arith, common_steps)

pub loop-stop-preserved : goal.loop-stop-preserved
loop-stop-preserved c = grind (arith, common_steps)

pub returns : goal.returns
returns c = grind (arith, common_steps)
