use Rattle.std.proofs.Common.{rules}
use Rattle.nr_settings.proofs.stops.Stops.is_full.Goals as goal

pub returns-clause-value : goal.returns-clause-value
returns-clause-value c = search rules
