use Rattle.std.proofs.Common.{arith}
use Rattle.std.proofs.lemmas.Grind.{common_steps}
use Rattle.nr_pool.proofs.slot.spare_of.Goals as goal

pub returns-clause-spares : goal.returns-clause-spares
returns-clause-spares c = grind (arith, common_steps)

pub returns-clause-few : goal.returns-clause-few
returns-clause-few c = grind (arith, common_steps)
