use Rattle.std.proofs.Common.{rules}
use Rattle.nr_command_options.proofs.settings.read_limit.Goals as goal

pub returns-then-admits : goal.returns-then-admits
returns-then-admits c = search rules
