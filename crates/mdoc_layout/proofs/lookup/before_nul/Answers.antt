use Rattle.std.proofs.Common.{arith}
use Rattle.std.proofs.lemmas.Grind.{common_steps}
use Rattle.mdoc_layout.proofs.lookup.before_nul.Goals as goal

pub returns-then-byte-eq0-clause-value : goal.returns-then-byte-eq0-clause-value
returns-then-byte-eq0-clause-value c = grind (arith, common_steps)

pub loop-i-preserved : goal.loop-i-preserved
loop-i-preserved c = grind (arith, common_steps)

pub returns-clause-value : goal.returns-clause-value
returns-clause-value c = grind (arith, common_steps)
