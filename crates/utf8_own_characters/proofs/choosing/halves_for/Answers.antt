use Rattle.std.proofs.Common.{arith}
use Rattle.std.proofs.lemmas.Grind.{common_steps}
use Rattle.utf8_own_characters.proofs.choosing.halves_for.Goals as goal

pub loop-halves-preserved : goal.loop-halves-preserved
loop-halves-preserved c = grind (arith, common_steps)
