use Rattle.std.proofs.Common.{arith}
use Rattle.std.proofs.lemmas.Grind.{common_steps}
use Rattle.nr_reading.proofs.half.Half.take_in_run.Goals as goal

pub returns-else-count-gt0-clause-longest : goal.returns-else-count-gt0-clause-longest
returns-else-count-gt0-clause-longest g c = grind (arith, common_steps)
