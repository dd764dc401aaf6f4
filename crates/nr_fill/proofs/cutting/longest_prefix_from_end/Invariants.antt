use Rattle.std.proofs.Common.{◌≡◌, ◌+◌, ◌<◌, ◌≤◌, List, length, take, drop, get_or}
use Rattle.nr_vectors.specs.declared.cell.Cell.{Cell}
use Rattle.nr_fill.specs.Cutting.{join_width, hyphen_before, most_that_fit}
use Rattle.nr_fill.specs.Slots.{blank_slot, pieces_of, cells_in_slots, slots_width}
use Rattle.nr_fill.proofs.cutting.longest_prefix_from_end.Given as goal

abbrev pub invariant-loop-count : goal.invariant-loop-count
invariant-loop-count l = record {
  some : 0 < l.count;
  within : l.count ≤ length l.slots;
  one : l.hyphen ≤ 1;
  wide : l.width + join_width (get_or l.slots 0 blank_slot).join ≡ slots_width (take l.count l.slots);
  narrow : l.width ≤ l.wide;
  hyphen_is : (cells : List Cell) → hyphen_before (drop l.count (pieces_of l.slots cells)) ≡ l.hyphen;
  most : (cells : List Cell) → cells_in_slots l.slots ≤ length cells → most_that_fit l.line (pieces_of l.slots cells) (length l.slots) ≡ most_that_fit l.line (pieces_of l.slots cells) l.count;
}

abbrev pub decreases-loop-count : goal.decreases-loop-count
decreases-loop-count l = l.count
