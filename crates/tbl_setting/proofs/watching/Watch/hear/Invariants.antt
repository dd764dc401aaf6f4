use Rattle.std.proofs.Common.{◌≡◌, ◌≤◌, ◌-◌, drop, length}
use Rattle.tbl_columns.specs.Held.{emptied}
use Rattle.tbl_setting.specs.Watching.{heard, watching}
use Rattle.tbl_setting.proofs.watching.Watch.hear.Given as goal

abbrev pub invariant-loop-at : goal.invariant-loop-at
invariant-loop-at l = record {
  value : heard (drop l.at l.text) (watching l.self l.grid) ≡ heard l.text (watching l.initial.self l.initial.grid);
  room : emptied l.grid ≡ emptied l.initial.grid;
  within : l.at ≤ length l.text;
}

abbrev pub decreases-loop-at : goal.decreases-loop-at
decreases-loop-at l = length l.text - l.at
