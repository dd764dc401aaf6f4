use Rattle.std.proofs.Common.{arith}
use Rattle.std.proofs.lemmas.Grind.{common_steps}
use Rattle.nr_store.proofs.store.Store.admits.Goals as goal

pub returns-then-bytes-room-clause-depth : goal.returns-then-bytes-room-clause-depth
returns-then-bytes-room-clause-depth g c = grind (arith, common_steps)
