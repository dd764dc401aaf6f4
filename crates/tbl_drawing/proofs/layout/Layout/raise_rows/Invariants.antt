use Rattle.std.proofs.Common.{◌≡◌}
use Rattle.tbl_drawing.specs.Heights.{raised_at}
use Rattle.tbl_drawing.specs.Held.{emptied}
use Rattle.tbl_table.specs.Held.{none_of}
use Rattle.tbl_table.specs.Lists.{in_turn}
use Rattle.tbl_drawing.proofs.layout.Layout.raise_rows.Given as goal

abbrev pub invariant-loop-number : goal.invariant-loop-number
invariant-loop-number l = record {
  value : l.self ≡ in_turn l.number raised_at l.initial.self;
  room : emptied l.self ≡ emptied l.initial.self;
}
