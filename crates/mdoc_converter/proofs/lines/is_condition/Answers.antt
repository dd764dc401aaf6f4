use Rattle.std.proofs.Common.{arith}
use Rattle.std.proofs.lemmas.Grind.{common_steps}
use Rattle.mdoc_converter.proofs.lines.is_condition.Goals as goal

pub returns-in-if : goal.returns-in-if
returns-in-if c = grind (arith, common_steps)

pub returns-in-if-2 : goal.returns-in-if-2
returns-in-if-2 c = grind (arith, common_steps)

pub returns-in-if-3 : goal.returns-in-if-3
returns-in-if-3 c = grind (arith, common_steps)
