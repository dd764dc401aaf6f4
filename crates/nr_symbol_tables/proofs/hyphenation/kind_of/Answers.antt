use Rattle.std.proofs.Common.{arith}
use Rattle.std.proofs.lemmas.Grind.{common_steps}
use Rattle.nr_symbol_tables.proofs.hyphenation.kind_of.Goals as goal

pub loop-letter-preserved : goal.loop-letter-preserved
loop-letter-preserved c = grind (arith, common_steps)

pub returns-clause-is : goal.returns-clause-is
returns-clause-is c = grind (arith, common_steps)
