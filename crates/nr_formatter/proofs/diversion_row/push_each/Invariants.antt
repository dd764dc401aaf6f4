use Rattle.std.proofs.Common.{◌≡◌, take}
use Rattle.nr_formatter.specs.DiversionRow.{AddsToDiversion}
use Rattle.nr_formatter.proofs.diversion_row.push_each.Given as goal

abbrev pub invariant-loop-cell : goal.invariant-loop-cell
invariant-loop-cell l = record {
  same : l.row.store.ghost_name ≡ l.fn.row.store.ghost_name;
  charge : l.row.charge ≡ l.fn.row.charge;
  adds : AddsToDiversion l.fn.row.store.now l.fn.row.blanks l.fn.row.refused (take l.cell-index l.cells) l.row.store.now l.row.blanks l.row.refused;
}
