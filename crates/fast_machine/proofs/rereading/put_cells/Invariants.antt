use Rattle.std.proofs.Common.{◌≡◌, take}
use Rattle.nr_fill.specs.CellRow.{AddsToRow}
use Rattle.fast_machine.specs.Rereading.{AreCells, cells_of}
use Rattle.fast_machine.proofs.rereading.put_cells.Given as goal

abbrev pub invariant-loop-element : goal.invariant-loop-element
invariant-loop-element l = record {
  count : l.count ≡ l.element-index;
  cells : AreCells (take l.element-index l.elements);
  adds : AddsToRow l.fn.row (cells_of (take l.element-index l.elements)) l.row;
}
