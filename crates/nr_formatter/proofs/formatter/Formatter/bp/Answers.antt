use Rattle.std.proofs.Common.{arith}
use Rattle.std.proofs.lemmas.Grind.{common_steps}
use Rattle.nr_formatter.proofs.formatter.Formatter.bp.Goals as goal

pub returns-in-Open : goal.returns-in-Open
returns-in-Open c = grind (arith, common_steps)

pub returns-in-Closed : goal.returns-in-Closed
returns-in-Closed c = grind (arith, common_steps)
