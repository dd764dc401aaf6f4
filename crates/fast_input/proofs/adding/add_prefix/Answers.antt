use Rattle.std.proofs.Common.{arith}
use Rattle.std.proofs.lemmas.Grind.{common_steps}
use Rattle.fast_input.proofs.adding.add_prefix.Goals as goal

pub returns-clause-plain : goal.returns-clause-plain
returns-clause-plain g c = grind (arith, common_steps)

pub returns-clause-added : goal.returns-clause-added
returns-clause-added g c = grind (arith, common_steps)

pub returns-clause-longest : goal.returns-clause-longest
returns-clause-longest g c = grind (arith, common_steps)
