use Rattle.std.proofs.Common.{arith}
use Rattle.std.proofs.lemmas.Grind.{common_steps}
use Rattle.nr_store.proofs.store.Store.clear_levels.Goals as goal

pub loop-self-smaller : goal.loop-self-smaller
loop-self-smaller g c = grind (arith, common_steps)

pub forget_arguments-requires : goal.forget_arguments-requires
forget_arguments-requires g c = grind (arith, common_steps)

pub returns : goal.returns
returns g c = grind (arith, common_steps)
