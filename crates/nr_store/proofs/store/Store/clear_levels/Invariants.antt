use Rattle.std.proofs.Common.{◌≡◌}
use Rattle.nr_store.specs.Store.{emptied}
use Rattle.nr_store.proofs.Reading.{all_times}
use Rattle.nr_store.proofs.store.Store.clear_levels.Given as goal

abbrev pub invariant-loop-self : goal.invariant-loop-self
invariant-loop-self g l = emptied l.self ≡ emptied l.initial.self

abbrev pub decreases-loop-self : goal.decreases-loop-self
decreases-loop-self g l = all_times l.self.levels
