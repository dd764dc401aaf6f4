-- The options before the index were taken.
use Rattle.std.proofs.Common.{take}
use Rattle.nr_command_options.specs.Arguments.{files}
use Rattle.nr_command_options.specs.Job.{Taken, asked_of, texts}
use Rattle.nr_command_options.proofs.arguments.read_words.Given as goal

abbrev pub invariant-loop-option : goal.invariant-loop-option
invariant-loop-option l = Taken (texts (take l.option-index l.options)) (files (texts l.words)) (asked_of l.job)
