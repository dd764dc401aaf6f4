use Rattle.std.proofs.Common.{arith}
use Rattle.std.proofs.lemmas.Grind.{common_steps}
use Rattle.mdoc_command.proofs.names.opens.Goals as goal

pub returns-in-66 : goal.returns-in-66
returns-in-66 c = grind (arith, common_steps)
