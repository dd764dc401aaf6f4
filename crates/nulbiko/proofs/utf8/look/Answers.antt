use Rattle.nulbiko.proofs.Utf8Run.{never, numbered}
use Rattle.nulbiko.proofs.utf8.look.Goals as goal

pub unreachable-requires : goal.unreachable-requires
unreachable-requires c = never c.in-Err.ensures.failures

pub returns : goal.returns
returns c = numbered _ c.args.input.now c.in-Ok.table c.number_of.result c.in-Ok.ensures.value c.over-text.ensures.supply c.number_of.ensures
