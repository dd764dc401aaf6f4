use Rattle.std.proofs.Common.{◌≡◌, drop}
use Rattle.nr_fill.specs.Tabs.{first_beyond}
use Rattle.nr_fill.proofs.tabs.first_beyond.Given as goal

abbrev pub invariant-loop-stop : goal.invariant-loop-stop
invariant-loop-stop l = first_beyond l.column (drop l.stop-index l.stops) ≡ first_beyond l.column l.stops
