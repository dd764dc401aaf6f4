use Rattle.std.proofs.Common.{◌≡◌}
use Rattle.tbl_columns.specs.Frames.{left_edge}
use Rattle.tbl_columns.specs.Held.{emptied}
use Rattle.tbl_columns.specs.Shares.{gap_shared, gaps_so_far}
use Rattle.tbl_table.specs.Lists.{in_turn}
use Rattle.tbl_columns.proofs.grid.Grid.share_all_gaps.Given as goal

abbrev pub invariant-loop-number : goal.invariant-loop-number
invariant-loop-number l = record {
  value : gaps_so_far l.self l.before ≡ in_turn l.number (gap_shared l.share l.alone) (gaps_so_far l.initial.self (left_edge l.initial.self));
  room : emptied l.self ≡ emptied l.initial.self;
}
