use Rattle.std.proofs.Common.{◌≡◌, ◌≤◌, drop}
use Rattle.tbl_setting.specs.Arguments.{number_from}
use Rattle.tbl_setting.proofs.arguments.number_of.Given as goal

abbrev pub invariant-loop-at : goal.invariant-loop-at
invariant-loop-at l = record {
  value : number_from l.at l.number (drop l.at l.text) ≡ number_from 0 0 l.text;
  most : l.number ≤ 999;
}
