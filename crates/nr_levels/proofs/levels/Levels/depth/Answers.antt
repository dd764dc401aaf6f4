use Rattle.std.proofs.Common.{◌∙◌}
use Rattle.nr_levels.proofs.Pushing.{depth_is}
use Rattle.nr_levels.proofs.levels.Levels.depth.Goals as goal

pub returns-clause-value : goal.returns-clause-value
returns-clause-value g c = c.len.ensures.value ∙ depth_is _ _ _ _ _ _ _ _ c.self.view_is
