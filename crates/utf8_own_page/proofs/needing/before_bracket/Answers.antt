use Rattle.std.proofs.Common.{arith}
use Rattle.std.proofs.lemmas.Grind.{common_steps}
use Rattle.utf8_own_page.proofs.needing.before_bracket.Goals as goal

pub returns-then-byte-eq93 : goal.returns-then-byte-eq93
returns-then-byte-eq93 c = grind (arith, common_steps)

pub loop-i-preserved : goal.loop-i-preserved
loop-i-preserved c = grind (arith, common_steps)

pub returns : goal.returns
returns c = grind (arith, common_steps)
