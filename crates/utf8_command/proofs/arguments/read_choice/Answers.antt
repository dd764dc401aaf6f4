use Rattle.std.proofs.Common.{arith}
use Rattle.std.proofs.lemmas.Grind.{common_steps}
use Rattle.utf8_command.proofs.arguments.read_choice.Goals as goal

pub returns-then-words-gt2-clause-answer : goal.returns-then-words-gt2-clause-answer
returns-then-words-gt2-clause-answer c = grind (arith, common_steps)

pub returns-clause-answer : goal.returns-clause-answer
returns-clause-answer c = grind (arith, common_steps)
