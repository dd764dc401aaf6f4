use Rattle.std.proofs.Common.{arith}
use Rattle.std.proofs.lemmas.Grind.{common_steps}
use Rattle.nr_store.proofs.store.Store.is_reading.Goals as goal

pub returns : goal.returns
returns g c = grind (arith, common_steps)
