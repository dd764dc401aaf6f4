use Rattle.std.proofs.Common.{arith}
use Rattle.std.proofs.lemmas.Grind.{common_steps}
use Rattle.utf8_characters.proofs.table.byte_in.Goals as goal

pub returns-then-from-code : goal.returns-then-from-code
returns-then-from-code c = grind (arith, common_steps)

pub loop-character-preserved : goal.loop-character-preserved
loop-character-preserved c = grind (arith, common_steps)

pub returns : goal.returns
returns c = grind (arith, common_steps)
