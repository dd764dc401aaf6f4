use Rattle.nr_levels.proofs.Going.{some_mode, next_item_mode}
use Rattle.nr_levels.proofs.levels.Levels.resume.Goals as goal

pub get-requires : goal.get-requires
get-requires g c = (some_mode _ _ _ _ _ _ _ _ _ c.self.view_is c.requires c.self.invariant.1).1

pub returns-clause-mode : goal.returns-clause-mode
returns-clause-mode g c = next_item_mode _ _ _ _ _ _ _ _ _ _ c.self.view_is c.requires c.self.invariant.1 c.get.ensures
