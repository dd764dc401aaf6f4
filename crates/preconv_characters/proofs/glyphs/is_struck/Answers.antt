use Rattle.std.proofs.Common.{arith}
use Rattle.std.proofs.lemmas.Grind.{common_steps}
use Rattle.preconv_characters.proofs.glyphs.is_struck.Goals as goal

pub returns-then-name-ge5 : goal.returns-then-name-ge5
returns-then-name-ge5 c = grind (arith, common_steps)
