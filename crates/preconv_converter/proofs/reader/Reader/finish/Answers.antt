use Rattle.std.proofs.Common.{arith}
use Rattle.std.proofs.lemmas.Grind.{common_steps}
use Rattle.preconv_converter.proofs.reader.Reader.finish.Goals as goal

pub returns-then-matches-clause-items : goal.returns-then-matches-clause-items
returns-then-matches-clause-items c = grind (arith, common_steps)

pub returns-else-matches-clause-items : goal.returns-else-matches-clause-items
returns-else-matches-clause-items c = grind (arith, common_steps)
