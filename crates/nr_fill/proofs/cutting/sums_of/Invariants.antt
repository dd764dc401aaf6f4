use Rattle.std.proofs.Common.{◌≡◌, ◌+◌, drop}
use Rattle.std.specs.Prelude.{count_by}
use Rattle.nr_fill.specs.declared.piece.PieceSlot.{PieceSlot}
use Rattle.nr_fill.specs.Slots.{cells_in_slots, slots_width, gap_slots}
use Rattle.nr_fill.specs.Spreading.{is_gap}
use Rattle.nr_fill.proofs.cutting.sums_of.Given as goal

abbrev pub invariant-loop-slot : goal.invariant-loop-slot
invariant-loop-slot l = record {
  cells : l.cells + cells_in_slots (drop l.slot-index l.others) ≡ cells_in_slots l.slots;
  wide : l.wide + slots_width (drop l.slot-index l.others) ≡ slots_width l.slots;
  gaps : l.gaps + count_by (λ (s : PieceSlot). is_gap s.join) (drop l.slot-index l.others) ≡ gap_slots l.slots;
}
