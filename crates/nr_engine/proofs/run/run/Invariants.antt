use Rattle.std.proofs.Common.{◌≡◌, ℕ, ◌+◌, ◌*◌, ◌≤◌, [], false}
use Rattle.nr_input.specs.Place.{has_failed}
use Rattle.nr_machine.specs.State.{State}
use Rattle.nr_machine.specs.Holding.{Holds, Made, shape, weight, worth}
use Rattle.nr_machine.specs.Limits.{limits_of}
use Rattle.nr_engine.proofs.run.run.Given as goal

abbrev pub invariant-loop-engine : goal.invariant-loop-engine
invariant-loop-engine g l = record {
  limit : l.engine.formatter.store.limit ≡ l.fn.engine.formatter.store.limit;
  most : l.engine.formatter.reader.most ≡ l.fn.engine.formatter.reader.most;
  limits : limits_of (shape l.engine) ≡ limits_of (shape l.fn.engine);
  within : l.left ≤ l.most;
  bound : l.most + weight (shape l.engine) ≤ worth (shape l.fn.engine) * (l.engine.place.taken + 1) + l.left;
  unfailed : has_failed l.engine.place.ahead ≡ false;
  reads : g.R.Source.failures l.input ≡ g.R.Source.failures l.fn.input;
  writes : g.W.Sink.failures l.output ≡ g.W.Sink.failures l.fn.output;
  made : (s : State) → Holds [] (g.R.Source.supply l.fn.input) s (shape l.fn.engine) →
      (n : ℕ) × (l.fn.moves + n + l.left ≡ l.most) × Made [] s n (shape l.engine) (g.R.Source.supply l.input) (g.W.Sink.held l.fn.output) (g.W.Sink.held l.output);
}

abbrev pub decreases-loop-engine : goal.decreases-loop-engine
decreases-loop-engine g l = l.left
