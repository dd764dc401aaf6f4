use Rattle.std.proofs.Common.{◌≡◌}
use Rattle.tbl_drawing.specs.Heights.{line_settled, without_begins}
use Rattle.tbl_drawing.specs.Held.{emptied}
use Rattle.tbl_table.specs.Lists.{in_turn}
use Rattle.tbl_drawing.proofs.layout.Layout.settle_lines.Given as goal

abbrev pub invariant-loop-number : goal.invariant-loop-number
invariant-loop-number l = record {
  value : l.self ≡ in_turn l.number line_settled (without_begins l.fn.self);
  room : emptied l.self ≡ emptied l.fn.self;
}
