-- What came, and what is to come, are what was to come.
use Rattle.std.proofs.Common.{length, take, drop, ◌-◌, ◌≡◌, ◌≤◌}
use Rattle.document_stages.specs.Joined.{joined}
use Rattle.document_stages.specs.Pulling.{Stays}
use Rattle.nulbiko.proofs.handed.hand_all.Given as goal

abbrev pub invariant-loop-at : goal.invariant-loop-at
invariant-loop-at g l = record {
  within : l.at ≤ length l.output;
  same : length l.output ≡ length l.initial.output;
  came : Stays (g.R.Source.supply l.initial.source) (joined (take l.at l.output) (g.R.Source.supply l.source));
  rest : drop l.at l.output ≡ drop l.at l.initial.output;
}

abbrev pub decreases-loop-at : goal.decreases-loop-at
decreases-loop-at g l = length l.initial.output - l.at
