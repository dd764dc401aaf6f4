use Rattle.std.proofs.Common.{◌≡◌, ◌-◌, length}
use Rattle.document_stages.specs.Joined.{joined}
use Rattle.document_stages.specs.Pulling.{Stays}
use Rattle.document_stages.proofs.gathered.gather.Given as goal

abbrev pub invariant-loop-input : goal.invariant-loop-input
invariant-loop-input g l = record {
  came : Stays (g.R.Source.supply l.initial.input) (joined l.held.items (g.R.Source.supply l.input));
  within : l.held.capacity ≡ l.initial.held.capacity;
}

abbrev pub decreases-loop-input : goal.decreases-loop-input
decreases-loop-input g l = l.initial.held.capacity - length l.held.items
