use Rattle.std.proofs.Common.{arith}
use Rattle.std.proofs.lemmas.Grind.{common_steps}
use Rattle.nr_levels.proofs.stack.Stack.at.Goals as goal

pub overflow_sub-result : goal.overflow_sub-result
overflow_sub-result g c = grind (arith, common_steps)

pub overflow_sub-result-2 : goal.overflow_sub-result-2
overflow_sub-result-2 g c = grind (arith, common_steps)

pub bounds-items-items : goal.bounds-items-items
bounds-items-items g c = grind (arith, common_steps)
