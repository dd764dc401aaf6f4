use Rattle.std.proofs.Common.{◌≡◌, ◌+◌, ◌-◌, ◌≤◌, true}
use Rattle.nr_reading.specs.declared.mode.Mode.TheVariants as modes
use Rattle.nr_reading.specs.Half.{reads_next}
use Rattle.nr_reading.specs.Many.Stretch.{LeadsOn}
use Rattle.nr_reading.proofs.half.Half.take_in_second_string.Given as goal

abbrev pub invariant-loop-place : goal.invariant-loop-place
invariant-loop-place g l = record {
  leads : LeadsOn (g.I.Items.next_items l.items) l.from l.made l.fn.self l.place (l.made + (l.place - l.from)) l.self;
  prefix : l.from ≤ l.place;
  mode : l.self.reading.mode ≡ modes.Second l.delimiter;
  next : reads_next l.self ≡ true;
}
