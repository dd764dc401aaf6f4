use Rattle.std.proofs.Common.{◌≡◌, ◌+◌, ◌-◌, ◌*◌, ◌≤◌, ◌++◌, length, take}
use Rattle.std.specs.List.{flat_map}
use Rattle.nr_page.specs.PageBytes.{cell_bytes}
use Rattle.nr_page.proofs.gathering.gather_cells.Given as goal

abbrev pub invariant-loop-cell : goal.invariant-loop-cell
invariant-loop-cell l = record {
  items : l.pending.items ≡ l.initial.pending.items ++ flat_map (cell_bytes l.faces) (take l.cell-index l.cells);
  fits : length l.pending.items + 3 * (length l.cells - l.cell-index) ≤ l.pending.capacity;
  room : l.pending.capacity ≡ l.initial.pending.capacity;
}
