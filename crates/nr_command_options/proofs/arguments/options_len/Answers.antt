use Rattle.std.proofs.Common.{arith}
use Rattle.std.proofs.lemmas.Grind.{common_steps}
use Rattle.nr_command_options.proofs.arguments.options_len.Goals as goal

pub returns-then-not-is_option-clause-value : goal.returns-then-not-is_option-clause-value
returns-then-not-is_option-clause-value c = grind (arith, common_steps)
