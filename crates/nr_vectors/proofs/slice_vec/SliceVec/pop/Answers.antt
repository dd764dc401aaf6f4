use Rattle.std.proofs.Common.{arith}
use Rattle.std.proofs.lemmas.Grind.{common_steps}
use Rattle.nr_vectors.proofs.slice_vec.SliceVec.pop.Goals as goal

pub returns-then-self-gt0-clause-items : goal.returns-then-self-gt0-clause-items
returns-then-self-gt0-clause-items g c = grind (arith, common_steps)
