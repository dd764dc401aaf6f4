use Rattle.std.proofs.Common.{rules}
use Rattle.nr_command.proofs.disk.path_of.Goals as goal

pub returns-clause-path : goal.returns-clause-path
returns-clause-path c = search rules
