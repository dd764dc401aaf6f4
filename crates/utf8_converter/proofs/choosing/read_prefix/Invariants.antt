use Rattle.std.proofs.Common.{◌≡◌, ◌-◌, length}
use Rattle.utf8_converter.specs.Choosing.{Comes}
use Rattle.utf8_converter.proofs.choosing.read_prefix.Given as goal

abbrev pub invariant-loop-input : goal.invariant-loop-input
invariant-loop-input g l = record {
  came : Comes (g.R.Source.supply l.fn.input) l.page.items (g.R.Source.supply l.input);
  failures : g.R.Source.failures l.input ≡ g.R.Source.failures l.fn.input;
  room : l.page.capacity ≡ l.fn.page.capacity;
}

abbrev pub decreases-loop-input : goal.decreases-loop-input
decreases-loop-input g l = l.page.capacity - length l.page.items
