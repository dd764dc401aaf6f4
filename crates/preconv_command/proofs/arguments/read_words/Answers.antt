use Rattle.std.proofs.Common.{arith}
use Rattle.std.proofs.lemmas.Grind.{common_steps}
use Rattle.preconv_command.proofs.arguments.read_words.Goals as goal

pub returns-in-None-clause-answer : goal.returns-in-None-clause-answer
returns-in-None-clause-answer c = grind (arith, common_steps)

pub returns-then-not-is_option-clause-answer : goal.returns-then-not-is_option-clause-answer
returns-then-not-is_option-clause-answer c = grind (arith, common_steps)

pub returns-else-eq-2-clause-answer : goal.returns-else-eq-2-clause-answer
returns-else-eq-2-clause-answer c = grind (arith, common_steps)

pub loop-place-preserved : goal.loop-place-preserved
loop-place-preserved c = grind (arith, common_steps)

pub returns-then-awaits-2-clause-answer : goal.returns-then-awaits-2-clause-answer
returns-then-awaits-2-clause-answer c = grind (arith, common_steps)

pub returns-clause-answer : goal.returns-clause-answer
returns-clause-answer c = grind (arith, common_steps)
