use Rattle.std.proofs.Common.{◌≡◌, ◌+◌, ◌*◌, ◌≤◌, ◌++◌, length, take}
use Rattle.mdoc_converter.specs.Reading.{fed, state}
use Rattle.mdoc_converter.proofs.staged.read_some.Given as goal

abbrev pub invariant-loop-i : goal.invariant-loop-i
invariant-loop-i l = record {
  is_read : state l.reader l.blocks.items ≡ (fed (state l.fn.reader l.fn.blocks.items) (take l.i l.bytes)).state;
  is_put : l.out.items ≡ l.fn.out.items ++ (fed (state l.fn.reader l.fn.blocks.items) (take l.i l.bytes)).bytes;
  is_counted : l.steps ≡ (fed (state l.fn.reader l.fn.blocks.items) (take l.i l.bytes)).steps;
  few : length l.out.items ≤ length l.fn.out.items + 73984 * l.i;
  quick : l.steps ≤ 96 * l.i;
  room : l.out.capacity ≡ l.fn.out.capacity;
  blocks : l.blocks.capacity ≡ l.fn.blocks.capacity;
}
