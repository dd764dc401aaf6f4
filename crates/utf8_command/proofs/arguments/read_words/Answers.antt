use Rattle.std.proofs.Common.{arith}
use Rattle.std.proofs.lemmas.Grind.{common_steps}
use Rattle.utf8_command.proofs.arguments.read_words.Goals as goal

pub returns-then-is_empty-clause-answer : goal.returns-then-is_empty-clause-answer
returns-then-is_empty-clause-answer c = grind (arith, common_steps)

pub returns-then-eq-clause-answer : goal.returns-then-eq-clause-answer
returns-then-eq-clause-answer c = grind (arith, common_steps)

pub returns-then-eq-2-clause-answer : goal.returns-then-eq-2-clause-answer
returns-then-eq-2-clause-answer c = grind (arith, common_steps)

pub returns-then-eq-3-clause-answer : goal.returns-then-eq-3-clause-answer
returns-then-eq-3-clause-answer c = grind (arith, common_steps)

pub returns-clause-answer : goal.returns-clause-answer
returns-clause-answer c = grind (arith, common_steps)
