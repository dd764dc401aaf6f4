use Rattle.std.proofs.Common.{arith}
use Rattle.std.proofs.lemmas.Grind.{common_steps}
use Rattle.preconv_characters.proofs.likeness.text_in.Goals as goal

pub returns-then-entry-code : goal.returns-then-entry-code
returns-then-entry-code g c = grind (arith, common_steps)

pub loop-entry-preserved : goal.loop-entry-preserved
loop-entry-preserved g c = grind (arith, common_steps)

pub returns : goal.returns
returns g c = grind (arith, common_steps)
