use Rattle.std.proofs.Common.{◌≡◌, ◌-◌, ◌≤◌}
use Rattle.tbl_drawing.specs.Heights.{highest, own_height}
use Rattle.tbl_drawing.proofs.layout.Layout.own_height.Given as goal

abbrev pub invariant-loop-number : goal.invariant-loop-number
invariant-loop-number l = record {
  all : highest (l.number-end - l.number) l.self.grid l.number l.height ≡ own_height l.self.grid l.fn.row;
  some : 1 ≤ l.height;
}
