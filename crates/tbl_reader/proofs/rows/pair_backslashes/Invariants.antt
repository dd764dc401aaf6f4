use Rattle.std.proofs.Common.{◌≡◌}
use Rattle.tbl_reader.proofs.Pairs.{Paired}
use Rattle.tbl_reader.proofs.rows.pair_backslashes.Given as goal

abbrev pub invariant-loop-at : goal.invariant-loop-at
invariant-loop-at l = record {
  pairs : Paired l.start l.at l.alone l.fn.kept.items l.kept.items;
  room : l.kept.capacity ≡ l.fn.kept.capacity;
}
