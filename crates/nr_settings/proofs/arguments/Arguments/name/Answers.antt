use Rattle.std.proofs.Common.{rules}
use Rattle.nr_settings.proofs.arguments.Arguments.name.Goals as goal

pub returns-then-len-eq0-clause-name : goal.returns-then-len-eq0-clause-name
returns-then-len-eq0-clause-name c = search rules
