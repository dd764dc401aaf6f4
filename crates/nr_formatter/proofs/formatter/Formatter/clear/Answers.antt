use Rattle.std.proofs.Common.{arith}
use Rattle.std.proofs.lemmas.Grind.{common_steps}
use Rattle.nr_formatter.proofs.formatter.Formatter.clear.Goals as goal

pub returns : goal.returns
returns c = grind (arith, common_steps)
