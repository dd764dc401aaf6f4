use Rattle.std.proofs.Common.{arith}
use Rattle.std.proofs.lemmas.Grind.{common_steps}
use Rattle.nr_reading.proofs.half.Half.over.Goals as goal

pub answered-requires : goal.answered-requires
answered-requires c = grind (arith, common_steps)
