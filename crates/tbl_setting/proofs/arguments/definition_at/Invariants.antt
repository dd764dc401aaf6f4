use Rattle.std.proofs.Common.{◌≡◌, drop}
use Rattle.tbl_setting.specs.Arguments.{definition_from}
use Rattle.tbl_setting.proofs.arguments.definition_at.Given as goal

abbrev pub invariant-loop-at : goal.invariant-loop-at
invariant-loop-at l = definition_from l.at (drop l.at l.line) ≡ definition_from 0 l.line
