use Rattle.std.proofs.Common.{◌≡◌}
use Rattle.tbl_setting.specs.Arguments.{passed}
use Rattle.tbl_blocks.specs.Words.{arguments_of}
use Rattle.tbl_setting.proofs.arguments.after_arguments.Given as goal

abbrev pub invariant-loop : goal.invariant-loop
invariant-loop l = l.rest ≡ passed l.counter (arguments_of l.request)
