-- Those that came are not it.
use Rattle.std.proofs.Common.{◌≡◌, drop}
use Rattle.utf8_own_characters.specs.Table.{is_among}
use Rattle.utf8_own_page.proofs.lacking.is_among.Given as goal

abbrev pub invariant-loop-cell : goal.invariant-loop-cell
invariant-loop-cell l = is_among l.cluster (drop l.cell-index l.cells) ≡ is_among l.cluster l.cells
