-- The words before `at` are options.
use Rattle.std.proofs.Common.{◌≡◌, ◌+◌, drop}
use Rattle.std.specs.List.{prefix_len}
use Rattle.nr_command_options.specs.Arguments.{is_option}
use Rattle.nr_command_options.specs.Job.{texts}
use Rattle.nr_command_options.proofs.arguments.options_len.Given as goal

abbrev pub invariant-loop-at : goal.invariant-loop-at
invariant-loop-at l = prefix_len is_option (texts l.words) ≡ l.at + prefix_len is_option (texts (drop l.at l.words))
