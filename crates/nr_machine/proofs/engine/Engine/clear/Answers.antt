use Rattle.std.proofs.Common.{arith}
use Rattle.std.proofs.lemmas.Grind.{common_steps}
use Rattle.nr_machine.proofs.engine.Engine.clear.Goals as goal

pub returns-clause-is_new : goal.returns-clause-is_new
returns-clause-is_new c = grind (arith, common_steps)
