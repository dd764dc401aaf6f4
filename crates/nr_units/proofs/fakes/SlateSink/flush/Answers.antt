use Rattle.std.proofs.Common.{rules}
use Rattle.nr_units.proofs.fakes.SlateSink.flush.Goals as goal

pub returns-clause-fails : goal.returns-clause-fails
returns-clause-fails c = search rules
