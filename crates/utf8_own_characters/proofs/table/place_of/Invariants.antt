-- What is left to look at.
use Rattle.std.proofs.Common.{◌≡◌, drop}
use Rattle.utf8_own_characters.specs.Table.{place_from}
use Rattle.utf8_own_characters.proofs.table.place_of.Given as goal

abbrev pub invariant-loop-cell : goal.invariant-loop-cell
invariant-loop-cell l = record {
  place : l.place ≡ l.cell-index;
  left : place_from 0 l.cells l.cluster ≡ place_from l.place (drop l.cell-index l.cells) l.cluster;
}
