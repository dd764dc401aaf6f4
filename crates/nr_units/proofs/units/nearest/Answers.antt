use Rattle.std.proofs.Common.{arith}
use Rattle.std.proofs.lemmas.Grind.{common_steps}
use Rattle.nr_units.proofs.units.nearest.Goals as goal

pub returns-then-n-d-clause-value : goal.returns-then-n-d-clause-value
returns-then-n-d-clause-value c = grind (arith, common_steps)

pub returns-then-n-d-clause-less_than_half_below : goal.returns-then-n-d-clause-less_than_half_below
returns-then-n-d-clause-less_than_half_below c = grind (arith, common_steps)
