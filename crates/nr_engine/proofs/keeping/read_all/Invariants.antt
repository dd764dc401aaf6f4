use Rattle.std.proofs.Common.{◌≡◌, ℕ, ◌+◌, ◌*◌, ◌≤◌, [], Some, false}
use Rattle.nr_input.specs.Place.{has_failed}
use Rattle.nr_machine.specs.FirstBytes.{broken_off}
use Rattle.nr_machine.specs.State.{State}
use Rattle.nr_machine.specs.Holding.{Holds, Made, shape, weight, worth}
use Rattle.nr_machine.specs.Limits.{limits_of}
use Rattle.nr_engine.proofs.keeping.read_all.Given as goal

abbrev pub invariant-loop-engine : goal.invariant-loop-engine
invariant-loop-engine l = record {
  limit : l.engine.formatter.store.limit ≡ l.fn.engine.formatter.store.limit;
  most : l.engine.formatter.reader.most ≡ l.fn.engine.formatter.reader.most;
  limits : limits_of (shape l.engine) ≡ limits_of (shape l.fn.engine);
  within : l.left ≤ l.most;
  bound : l.most + weight (shape l.engine) ≤ worth (shape l.fn.engine) * (l.engine.place.taken + 1) + l.left;
  unfailed : has_failed l.engine.place.ahead ≡ false;
  made : (s : State) → Holds [] (Some (broken_off l.first)) s (shape l.fn.engine) →
      (n : ℕ) × (l.before + n + l.left ≡ l.most) × Made [] s n (shape l.engine) (Some (broken_off l.input.rest.now)) (Some []) (Some []);
}

abbrev pub decreases-loop-engine : goal.decreases-loop-engine
decreases-loop-engine l = l.left
