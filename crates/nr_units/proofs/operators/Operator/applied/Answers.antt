use Rattle.std.proofs.Common.{arith}
use Rattle.std.proofs.lemmas.Grind.{common_steps}
use Rattle.nr_units.proofs.operators.Operator.applied.Goals as goal

pub returns-in-Add : goal.returns-in-Add
returns-in-Add c = grind (arith, common_steps)

pub returns-in-Subtract : goal.returns-in-Subtract
returns-in-Subtract c = grind (arith, common_steps)

pub returns-in-Multiply : goal.returns-in-Multiply
returns-in-Multiply c = grind (arith, common_steps)

pub returns-in-Divide : goal.returns-in-Divide
returns-in-Divide c = grind (arith, common_steps)

pub returns-in-Remainder : goal.returns-in-Remainder
returns-in-Remainder c = grind (arith, common_steps)

pub returns-in-Less : goal.returns-in-Less
returns-in-Less c = grind (arith, common_steps)

pub returns-in-LessOrEqual : goal.returns-in-LessOrEqual
returns-in-LessOrEqual c = grind (arith, common_steps)

pub returns-in-Greater : goal.returns-in-Greater
returns-in-Greater c = grind (arith, common_steps)

pub returns-in-GreaterOrEqual : goal.returns-in-GreaterOrEqual
returns-in-GreaterOrEqual c = grind (arith, common_steps)

pub returns-in-Equal : goal.returns-in-Equal
returns-in-Equal c = grind (arith, common_steps)

pub returns-after-x-gt0 : goal.returns-after-x-gt0
returns-after-x-gt0 c = grind (arith, common_steps)

pub returns-after-x-gt0-2 : goal.returns-after-x-gt0-2
returns-after-x-gt0-2 c = grind (arith, common_steps)

pub overflow_mul-x : goal.overflow_mul-x
overflow_mul-x c = grind (arith, common_steps)

pub overflow_add-x : goal.overflow_add-x
overflow_add-x c = grind (arith, common_steps)
