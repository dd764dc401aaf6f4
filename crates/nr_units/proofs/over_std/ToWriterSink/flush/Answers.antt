use Rattle.std.proofs.Common.{rules}
use Rattle.nr_units.proofs.over_std.ToWriterSink.flush.Goals as goal

pub returns-in-Err-clause-failures : goal.returns-in-Err-clause-failures
returns-in-Err-clause-failures g c = search rules
