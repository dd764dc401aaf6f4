use Rattle.std.proofs.Common.{◌≡◌}
use Rattle.tbl_columns.specs.Frames.{laid_at, laying, left_edge}
use Rattle.tbl_columns.specs.Held.{emptied}
use Rattle.tbl_table.specs.Lists.{in_turn}
use Rattle.tbl_table.specs.Sums.{sum}
use Rattle.tbl_columns.proofs.grid.Grid.lay_out.Given as goal

abbrev pub invariant-loop-number : goal.invariant-loop-number
invariant-loop-number l = record {
  value : laying l.self l.place
      ≡ in_turn l.number laid_at (laying l.initial.self (sum (left_edge l.initial.self) l.initial.self.edges.left));
  room : emptied l.self ≡ emptied l.initial.self;
}
