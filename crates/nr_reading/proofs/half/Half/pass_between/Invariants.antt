use Rattle.std.proofs.Common.{ℕ, ◌+◌, ◌-◌, ◌≤◌}
use Rattle.nr_reading.specs.Many.Stretch.{LeadsOn}
use Rattle.nr_reading.proofs.half.Half.pass_between.Given as goal

abbrev pub invariant-loop-place : goal.invariant-loop-place
invariant-loop-place g l = record {
  leads : (n : ℕ) → LeadsOn (g.I.Items.next_items l.items) l.from n l.self l.place (n + (l.place - l.from)) l.self;
  prefix : l.from ≤ l.place;
}
