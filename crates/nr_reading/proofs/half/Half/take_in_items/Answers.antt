use Rattle.nr_reading.proofs.Stretches.{taken_in_here}
use Rattle.nr_reading.proofs.half.Half.take_in_items.Goals as goal

pub returns-then-reads_plainly-clause-taken_in : goal.returns-then-reads_plainly-clause-taken_in
returns-then-reads_plainly-clause-taken_in g c = taken_in_here (g.I.Items.next_items c.args.items.now) c.args.self.now c.take_in_by_mode.new.self c.take_in_by_mode.new.run c.take_in_by_mode.ensures

pub returns-clause-taken_in : goal.returns-clause-taken_in
returns-clause-taken_in g c = taken_in_here (g.I.Items.next_items c.args.items.now) c.args.self.now c.take_in_others.new.self c.take_in_others.new.run c.take_in_others.ensures
