use Rattle.std.proofs.Common.{rules}
use Rattle.nr_command_options.proofs.usage.usage_line.Goals as goal

pub returns-in-Ok-clause-failures : goal.returns-in-Ok-clause-failures
returns-in-Ok-clause-failures g c = search rules
