use Rattle.std.proofs.Common.{arith}
use Rattle.std.proofs.lemmas.Grind.{common_steps}
use Rattle.nr_pool.proofs.slot.swap_parts.Goals as goal

pub loop-k-preserved : goal.loop-k-preserved
loop-k-preserved g c = grind (arith, common_steps)
