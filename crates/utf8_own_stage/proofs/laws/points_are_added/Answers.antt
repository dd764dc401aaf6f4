use Rattle.utf8_own_stage.proofs.NoPoints.{no_points}
use Rattle.utf8_own_stage.proofs.OnlyPoints.{only_points}
use Rattle.utf8_own_stage.proofs.laws.points_are_added.Goals as goal

pub returns-clause-only : goal.returns-clause-only
returns-clause-only c = only_points

pub returns-clause-none : goal.returns-clause-none
returns-clause-none c = no_points
