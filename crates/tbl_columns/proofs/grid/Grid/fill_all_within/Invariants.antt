use Rattle.std.proofs.Common.{◌≡◌}
use Rattle.tbl_blocks.specs.Blocks.{without_lines}
use Rattle.tbl_columns.specs.Texts.{filled_within, with_blocks}
use Rattle.tbl_columns.specs.Held.{emptied}
use Rattle.tbl_table.specs.Lists.{in_turn}
use Rattle.tbl_columns.proofs.grid.Grid.fill_all_within.Given as goal

abbrev pub invariant-loop-number : goal.invariant-loop-number
invariant-loop-number l = record {
  value : l.self ≡ in_turn l.number filled_within (with_blocks (without_lines l.fn.self.blocks) l.fn.self);
  room : emptied l.self ≡ emptied l.initial.self;
}
