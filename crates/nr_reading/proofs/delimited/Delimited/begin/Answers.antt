use Rattle.std.proofs.Common.{arith}
use Rattle.std.proofs.lemmas.Grind.{common_steps}
use Rattle.nr_reading.proofs.delimited.Delimited.begin.Goals as goal

pub returns-then-count-ge-MOST-2 : goal.returns-then-count-ge-MOST-2
returns-then-count-ge-MOST-2 c = grind (arith, common_steps)

pub returns : goal.returns
returns c = grind (arith, common_steps)
