use Rattle.nr_reading.proofs.NextItems.{take_copied}
use Rattle.nr_reading.proofs.kept.Kept.set.Goals as goal

pub returns : goal.returns
returns c = take_copied c.copy_from_slice.new.self _ c.args.text.now c.min-len.result c.copy_from_slice.ensures.after c.min-len.ensures
