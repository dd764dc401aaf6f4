use Rattle.std.proofs.Common.{◌≡◌}
use Rattle.tbl_columns.specs.Texts.{read_at}
use Rattle.tbl_columns.specs.Held.{emptied}
use Rattle.tbl_table.specs.Lists.{in_turn}
use Rattle.tbl_columns.proofs.grid.Grid.read_blocks.Given as goal

abbrev pub invariant-loop-number : goal.invariant-loop-number
invariant-loop-number l = record {
  value : l.self ≡ in_turn l.number read_at l.initial.self;
  room : emptied l.self ≡ emptied l.initial.self;
}
