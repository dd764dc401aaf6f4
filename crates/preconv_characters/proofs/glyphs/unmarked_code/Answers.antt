use Rattle.std.proofs.Common.{arith}
use Rattle.std.proofs.lemmas.Grind.{common_steps}
use Rattle.preconv_characters.proofs.glyphs.unmarked_code.Goals as goal

pub returns-then-name-eq117 : goal.returns-then-name-eq117
returns-then-name-eq117 c = grind (arith, common_steps)

pub returns-then-name-eq114 : goal.returns-then-name-eq114
returns-then-name-eq114 c = grind (arith, common_steps)

pub returns : goal.returns
returns c = grind (arith, common_steps)
