use Rattle.std.proofs.Common.{arith}
use Rattle.std.proofs.lemmas.Grind.{common_steps}
use Rattle.nr_levels.proofs.spans.span_of.Goals as goal

pub returns : goal.returns
returns c = grind (arith, common_steps)
