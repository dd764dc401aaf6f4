use Rattle.std.proofs.Common.{rules}
use Rattle.nr_units.proofs.over_std.FromReaderSource.next.Goals as goal

pub returns-in-Ok-None-clause-gives : goal.returns-in-Ok-None-clause-gives
returns-in-Ok-None-clause-gives g c = search rules
