use Rattle.utf8_own_characters.proofs.Counted.{counted_if}
use Rattle.utf8_own_characters.proofs.counting.stands.Goals as goal

pub returns : goal.returns
returns c = counted_if c.args.counts.now c.args.place c.at-count.result c.args.cluster.now c.is_same.result c.requires c.at-count.ensures c.is_same.ensures
