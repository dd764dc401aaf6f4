use Rattle.std.proofs.Common.{◌≡◌, ◌+◌, ◌≤◌, List, ◌++◌, drop}
use Rattle.nr_vectors.specs.declared.cell.Cell.{Cell}
use Rattle.nr_fill.specs.Slots.{pieces_of, cells_in_slots}
use Rattle.nr_fill.specs.Spreading.{cells_after, cells_in_line}
use Rattle.nr_fill.proofs.cell_row.lay_line.Given as goal

abbrev pub invariant-loop-slot : goal.invariant-loop-slot
invariant-loop-slot g l = record {
  gap : l.gap ≤ l.slot-index + 1;
  taken : l.taken + cells_in_slots (drop l.slot-index l.others) ≡ cells_in_slots l.slots;
  room : (g.R.CellRow.Holds l.row).capacity ≡ (g.R.CellRow.Holds l.fn.row).capacity;
  set : (done : List Cell) × ((g.R.CellRow.Holds l.row).items ≡ (g.R.CellRow.Holds l.fn.row).items ++ done)
      × (done ++ cells_after l.extra l.gap (pieces_of (drop l.slot-index l.others) (drop l.taken l.cells)) ≡ cells_in_line l.extra (pieces_of l.slots l.cells));
}
