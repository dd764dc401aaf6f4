use Rattle.utf8_own_characters.proofs.Coding.{there_if}
use Rattle.utf8_own_characters.proofs.table.stands.Goals as goal

pub returns : goal.returns
returns c = there_if c.args.cells.now c.args.place c.at-cell.result c.args.cluster.now c.is_same.result c.at-cell.ensures c.is_same.ensures
