use Rattle.std.proofs.Common.{arith}
use Rattle.std.proofs.lemmas.Grind.{common_steps}
use Rattle.mdoc_converter.proofs.reader.Reader.hear_star.Goals as goal

pub returns-clause-items : goal.returns-clause-items
returns-clause-items c = grind (arith, common_steps)
