use Rattle.std.proofs.Common.{arith}
use Rattle.std.proofs.lemmas.Grind.{common_steps}
use Rattle.mdoc_converter.proofs.at_hand.before_newline.Goals as goal

pub returns-then-bytes-i-eq10-clause-value : goal.returns-then-bytes-i-eq10-clause-value
returns-then-bytes-i-eq10-clause-value c = grind (arith, common_steps)

pub loop-i-preserved : goal.loop-i-preserved
loop-i-preserved c = grind (arith, common_steps)

pub returns-clause-value : goal.returns-clause-value
returns-clause-value c = grind (arith, common_steps)
