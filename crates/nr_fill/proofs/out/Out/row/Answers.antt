use Rattle.std.proofs.Common.{arith}
use Rattle.std.proofs.lemmas.Grind.{common_steps}
use Rattle.nr_fill.proofs.out.Out.row.Goals as goal

pub returns-then-self-len : goal.returns-then-self-len
returns-then-self-len c = grind (arith, common_steps)

pub returns-else-self-len : goal.returns-else-self-len
returns-else-self-len c = grind (arith, common_steps)
