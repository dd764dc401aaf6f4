use Rattle.std.proofs.Common.{rules}
use Rattle.nr_command_options.proofs.inputs.input_named.Goals as goal

pub returns-then-bytes-eq45 : goal.returns-then-bytes-eq45
returns-then-bytes-eq45 c = search rules
