use Rattle.std.proofs.Common.{◌≡◌, ◌-◌, length}
use Rattle.utf8_converter.specs.Choosing.{Comes}
use Rattle.filters_own.proofs.prefixes.read_prefix.Given as goal

abbrev pub invariant-loop-input : goal.invariant-loop-input
invariant-loop-input g l = record {
  came : Comes (g.R.Source.supply l.fn.input) l.prefix.items (g.R.Source.supply l.input);
  room : l.prefix.capacity ≡ l.fn.prefix.capacity;
}

abbrev pub decreases-loop-input : goal.decreases-loop-input
decreases-loop-input g l = l.prefix.capacity - length l.prefix.items
