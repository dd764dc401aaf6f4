use Rattle.nr_levels.proofs.Stacked.{forgotten}
use Rattle.nr_levels.proofs.levels.Levels.forget_arguments.Goals as goal

pub invariant_of-self : goal.invariant_of-self
invariant_of-self g c = let s = c.self.inside in (forgotten s.frames.items s.modes.items s.bytes.items s.places.items s.in_force s.bytes.capacity s.frames.capacity s.places.capacity c.args.self.now c.self.view_is c.requires c.self.invariant.0, c.self.invariant.1)
