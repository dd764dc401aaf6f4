use Rattle.std.proofs.Common.{◌≡◌, ◌≤◌, ◌-◌}
use Rattle.nr_reading.specs.declared.mode.PendingAct.TheVariants as pending_acts
use Rattle.nr_reading.specs.Many.Stretch.{LeadsOn}
use Rattle.nr_reading.proofs.half.Half.take_in_more.Given as goal

abbrev pub invariant-loop-taken : goal.invariant-loop-taken
invariant-loop-taken g l = record {
  leads : LeadsOn (g.I.Items.next_items l.items) l.from l.made l.fn.self l.taken l.moves l.self;
  pending_act : l.self.reading.pending_act ≡ pending_acts.Look;
  few : l.moves ≤ 65536;
}

abbrev pub decreases-loop-taken : goal.decreases-loop-taken
decreases-loop-taken g l = 65536 - l.moves
