use Rattle.std.proofs.Common.{arith}
use Rattle.std.proofs.lemmas.Grind.{common_steps}
use Rattle.nr_fill.proofs.measured.written_len.Goals as goal

pub loop-len-init : goal.loop-len-init
loop-len-init c = grind (arith, common_steps)

pub loop-len-preserved : goal.loop-len-preserved
loop-len-preserved c = grind (arith, common_steps)

pub returns-else-cells-len-eq32-clause-value : goal.returns-else-cells-len-eq32-clause-value
returns-else-cells-len-eq32-clause-value c = grind (arith, common_steps)
