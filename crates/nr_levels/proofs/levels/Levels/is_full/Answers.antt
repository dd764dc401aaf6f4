use Rattle.std.proofs.Common.{arith}
use Rattle.std.proofs.lemmas.Grind.{common_steps}
use Rattle.nr_levels.proofs.Pushing.{depth_is}
use Rattle.nr_levels.proofs.levels.Levels.is_full.Goals as goal

pub returns : goal.returns
returns g c = let same = depth_is _ _ _ _ _ _ _ _ c.self.view_is in grind (arith, common_steps)
