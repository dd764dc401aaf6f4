use Rattle.nr_reading.proofs.Paying.{pays_for}
use Rattle.nr_reading.proofs.half.Half.take_in.Goals as goal

pub returns-clause-pays : goal.returns-clause-pays
returns-clause-pays c = pays_for c.args.next_item c.args.self.now _ _ c.take_in_item.ensures
