-- What is still to be looked at.
use Rattle.std.proofs.Common.{◌≡◌, ◌-◌, true}
use Rattle.utf8_own_characters.specs.Counting.{is_once}
use Rattle.utf8_own_page.proofs.Looks.{LeftOf}
use Rattle.utf8_own_page.proofs.looking.look_through.Given as goal

abbrev pub invariant-loop-calls : goal.invariant-loop-calls
invariant-loop-calls g l = record {
  room : l.counts.capacity ≡ l.initial.counts.capacity;
  once : is_once l.counts.items ≡ true;
  left : LeftOf l.initial.counts.capacity (g.R.Source.supply l.initial.text) (g.R.Source.supply l.text) l.initial.listener l.listener
      l.initial.counts.items l.counts.items l.calls;
}

abbrev pub decreases-loop-calls : goal.decreases-loop-calls
decreases-loop-calls g l = 1099511627776 - l.calls
