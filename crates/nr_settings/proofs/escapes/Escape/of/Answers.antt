use Rattle.std.proofs.Common.{arith}
use Rattle.std.proofs.lemmas.Grind.{common_steps}
use Rattle.nr_settings.proofs.escapes.Escape.of.Goals as goal

pub returns-in-117-2 : goal.returns-in-117-2
returns-in-117-2 c = grind (arith, common_steps)

pub returns-in-117-3 : goal.returns-in-117-3
returns-in-117-3 c = grind (arith, common_steps)

pub returns-in-118-2 : goal.returns-in-118-2
returns-in-118-2 c = grind (arith, common_steps)

pub returns-in-10-3 : goal.returns-in-10-3
returns-in-10-3 c = grind (arith, common_steps)
