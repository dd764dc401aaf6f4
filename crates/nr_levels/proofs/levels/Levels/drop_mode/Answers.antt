use Rattle.nr_levels.proofs.Going.{some_mode, mode_dropped, modes_stand, levels_stand}
use Rattle.nr_levels.proofs.levels.Levels.drop_mode.Goals as goal

pub pop-requires : goal.pop-requires
pop-requires g c = (some_mode _ _ _ _ _ _ _ _ _ c.self.view_is c.requires c.self.invariant.1).0

pub pop-requires-2 : goal.pop-requires-2
pop-requires-2 g c = (some_mode _ _ _ _ _ _ _ _ _ c.self.view_is c.requires c.self.invariant.1).1

pub invariant_of-self : goal.invariant_of-self
invariant_of-self g c =
    rw (c.pop.ensures, c.pop-2.ensures)
    (levels_stand _ _ _ _ _ _ _ _ _ c.self.view_is c.requires c.self.invariant.0, modes_stand _ _ _ _ _ _ _ _ _ c.self.view_is c.requires c.self.invariant.1)

pub returns : goal.returns
returns g c = rw (c.pop.ensures, c.pop-2.ensures) (mode_dropped _ _ _ _ _ _ _ _ _ c.self.view_is c.requires c.self.invariant.1)
