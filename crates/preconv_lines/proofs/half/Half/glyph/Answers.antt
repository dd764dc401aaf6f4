use Rattle.std.proofs.Common.{arith}
use Rattle.std.proofs.lemmas.Grind.{common_steps}
use Rattle.preconv_lines.proofs.half.Half.glyph.Goals as goal

pub returns-then-not-translates : goal.returns-then-not-translates
returns-then-not-translates c = grind (arith, common_steps)

pub returns : goal.returns
returns c = grind (arith, common_steps)
