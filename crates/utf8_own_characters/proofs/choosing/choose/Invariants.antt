-- What is still to be chosen.
use Rattle.std.proofs.Common.{◌≡◌, ◌+◌, ◌≤◌, drop, length}
use Rattle.utf8_own_characters.specs.Choosing.{choice, chosen, left_out, nothing}
use Rattle.utf8_own_characters.proofs.choosing.choose.Given as goal

abbrev pub invariant-loop-count : goal.invariant-loop-count
invariant-loop-count l = record {
  narrow_room : 128 ≤ l.narrow.capacity;
  wide_room : 4096 ≤ l.wide.capacity;
  cells : chosen (choice l.narrow.items l.wide.items) (drop l.count-index l.counts) ≡ chosen nothing l.counts;
  reported : l.reported + length (left_out (choice l.narrow.items l.wide.items) (drop l.count-index l.counts)) ≡ length (left_out nothing l.counts);
  few : l.reported ≤ l.count-index;
}
