use Rattle.std.proofs.Common.{arith}
use Rattle.std.proofs.lemmas.Grind.{common_steps}
use Rattle.preconv_characters.proofs.said.say.Goals as goal

pub returns-in-Byte-clause-few : goal.returns-in-Byte-clause-few
returns-in-Byte-clause-few c = grind (arith, common_steps)
