use Rattle.std.proofs.Common.{◌≡◌, false, take}
use Rattle.std.specs.List.{list_any}
use Rattle.nr_formatter.specs.DiversionRow.{is_faced_blank}
use Rattle.nr_formatter.proofs.diversion_row.has_faced_blank.Given as goal

abbrev pub invariant-loop-cell : goal.invariant-loop-cell
invariant-loop-cell l = list_any is_faced_blank (take l.cell-index l.cells) ≡ false
