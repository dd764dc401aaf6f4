use Rattle.std.proofs.Common.{arith}
use Rattle.std.proofs.lemmas.Grind.{common_steps}
use Rattle.nr_levels.proofs.spans.push_spans.Goals as goal

pub overflow_add-last : goal.overflow_add-last
overflow_add-last c = grind (arith, common_steps)

pub loop-len-preserved : goal.loop-len-preserved
loop-len-preserved c = grind (arith, common_steps)

pub returns : goal.returns
returns c = grind (arith, common_steps)
