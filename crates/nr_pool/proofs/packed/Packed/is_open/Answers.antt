use Rattle.std.proofs.Common.{arith}
use Rattle.std.proofs.lemmas.Grind.{common_steps}
use Rattle.nr_pool.proofs.packed.Packed.is_open.Goals as goal

pub returns-then-index-len : goal.returns-then-index-len
returns-then-index-len g c = grind (arith, common_steps)

pub returns-else-index-len : goal.returns-else-index-len
returns-else-index-len g c = grind (arith, common_steps)
