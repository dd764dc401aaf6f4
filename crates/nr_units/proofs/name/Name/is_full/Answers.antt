use Rattle.std.proofs.Common.{rules}
use Rattle.nr_units.proofs.name.Name.is_full.Goals as goal

pub returns-clause-value : goal.returns-clause-value
returns-clause-value c = search rules
