use Rattle.std.proofs.Common.{◌≡◌, ◌-◌, ◌≤◌, true}
use Rattle.nr_reading.specs.declared.mode.Mode.TheVariants as modes
use Rattle.nr_reading.specs.Half.{reads_next}
use Rattle.nr_reading.specs.Many.Stretch.{LeadsOn}
use Rattle.nr_reading.proofs.half.Half.take_in_rejected.Given as goal

abbrev pub invariant-loop-place : goal.invariant-loop-place
invariant-loop-place g l = record {
  leads : LeadsOn (g.I.Items.next_items l.items) 0 0 l.fn.self l.place l.place l.self;
  mode : l.self.reading.mode ≡ modes.Skip l.level;
  next : reads_next l.self ≡ true;
  few : l.place ≤ 64001;
}

abbrev pub decreases-loop-place : goal.decreases-loop-place
decreases-loop-place g l = l.end - l.place
