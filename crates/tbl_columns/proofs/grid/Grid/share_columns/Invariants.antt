use Rattle.std.proofs.Common.{◌≡◌}
use Rattle.tbl_columns.specs.Held.{emptied}
use Rattle.tbl_columns.specs.Shares.{first_sharing, shared_at, sharing}
use Rattle.tbl_table.specs.Lists.{in_turn}
use Rattle.tbl_columns.proofs.grid.Grid.share_columns.Given as goal

abbrev pub invariant-loop-number : goal.invariant-loop-number
invariant-loop-number l = record {
  value : sharing l.self l.left l.rest ≡ in_turn l.number shared_at (first_sharing l.initial.self);
  room : emptied l.self ≡ emptied l.initial.self;
}
