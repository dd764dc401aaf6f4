use Rattle.std.proofs.Common.{arith}
use Rattle.std.proofs.lemmas.Grind.{common_steps}
use Rattle.nr_settings.proofs.tabs.Ruler.add_place.Goals as goal

pub returns-clause-range : goal.returns-clause-range
returns-clause-range c = grind (arith, common_steps)
