use Rattle.std.proofs.Common.{◌≡◌, ◌+◌, ◌-◌, ◌<◌, ◌≤◌, max, List, length, take, get_or}
use Rattle.nr_vectors.specs.declared.cell.Cell.{Cell}
use Rattle.nr_fill.specs.Cutting.{join_width, most_that_fit}
use Rattle.nr_fill.specs.Slots.{blank_slot, pieces_of, cells_in_slots, slots_width}
use Rattle.nr_fill.proofs.cutting.longest_prefix.Given as goal

abbrev pub invariant-loop-count : goal.invariant-loop-count
invariant-loop-count l = record {
  some : 0 < l.count;
  within : l.count ≤ length l.slots;
  best_some : 0 < l.best;
  best_within : l.best ≤ l.count;
  wide : l.width + join_width (get_or l.slots 0 blank_slot).join ≡ slots_width (take l.count l.slots);
  most : (cells : List Cell) → cells_in_slots l.slots ≤ length cells → l.best ≡ max 1 (most_that_fit l.line (pieces_of l.slots cells) (l.count - 1));
}

abbrev pub decreases-loop-count : goal.decreases-loop-count
decreases-loop-count l = length l.slots - l.count
