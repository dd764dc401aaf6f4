use Rattle.std.proofs.Common.{◌≡◌}
use Rattle.tbl_drawing.specs.Steps.{walked_at, walking}
use Rattle.tbl_drawing.specs.Held.{emptied}
use Rattle.tbl_table.specs.Lists.{in_turn}
use Rattle.tbl_drawing.proofs.layout.Layout.walk_items.Given as goal

abbrev pub invariant-loop-number : goal.invariant-loop-number
invariant-loop-number l = record {
  value : walking l.self l.walk ≡ in_turn l.number walked_at (walking l.initial.self l.initial.walk);
  room : emptied l.self ≡ emptied l.initial.self;
}
