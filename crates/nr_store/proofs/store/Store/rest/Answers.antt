use Rattle.std.proofs.Common.{arith}
use Rattle.std.proofs.lemmas.Grind.{common_steps}
use Rattle.nr_store.proofs.store.Store.rest.Goals as goal

pub text-text-requires : goal.text-text-requires
text-text-requires g c = grind (arith, common_steps)

pub returns-then-text-place : goal.returns-then-text-place
returns-then-text-place g c = grind (arith, common_steps)

pub returns-else-text-place : goal.returns-else-text-place
returns-else-text-place g c = grind (arith, common_steps)
