use Rattle.std.proofs.Common.{◌≡◌, ◌≤◌, drop}
use Rattle.tbl_table.specs.Requests as specs
use Rattle.tbl_table.proofs.requests.lines_in.Given as goal

abbrev pub invariant-loop-at : goal.invariant-loop-at
invariant-loop-at l = record {
  value : specs.lines_from l.lines (drop l.at l.text) ≡ specs.lines_in l.text;
  few : l.lines ≤ 10000;
}
