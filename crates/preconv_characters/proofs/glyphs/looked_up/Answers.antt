use Rattle.std.proofs.Common.{arith}
use Rattle.std.proofs.lemmas.Grind.{common_steps}
use Rattle.preconv_characters.proofs.glyphs.looked_up.Goals as goal

pub returns-then-entry-second : goal.returns-then-entry-second
returns-then-entry-second g c = grind (arith, common_steps)

pub loop-entry-preserved : goal.loop-entry-preserved
loop-entry-preserved g c = grind (arith, common_steps)

pub returns : goal.returns
returns g c = grind (arith, common_steps)
