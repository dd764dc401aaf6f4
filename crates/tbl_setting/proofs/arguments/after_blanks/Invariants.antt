use Rattle.std.proofs.Common.{◌≡◌, drop}
use Rattle.tbl_setting.specs.Arguments.{after_blanks}
use Rattle.tbl_setting.proofs.arguments.after_blanks.Given as goal

abbrev pub invariant-loop-at : goal.invariant-loop-at
invariant-loop-at l = after_blanks (drop l.at l.text) ≡ after_blanks l.text
