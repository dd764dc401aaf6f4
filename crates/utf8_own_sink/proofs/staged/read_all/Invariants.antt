-- What is still to come.
use Rattle.std.proofs.Common.{◌≡◌, ◌+◌, ◌*◌, ◌≤◌, ◌++◌, drop, length}
use Rattle.utf8_own_sink.specs.Reading.{fed}
use Rattle.utf8_own_sink.proofs.staged.read_all.Given as goal

abbrev pub invariant-loop-byte : goal.invariant-loop-byte
invariant-loop-byte l = record {
  room : l.out.capacity ≡ l.initial.out.capacity;
  few : length l.out.items ≤ length l.initial.out.items + 256 * l.byte-index;
  reader : (fed l.table l.reader (drop l.byte-index l.bytes)).reader ≡ (fed l.table l.initial.reader l.bytes).reader;
  items : l.out.items ++ (fed l.table l.reader (drop l.byte-index l.bytes)).bytes ≡ l.initial.out.items ++ (fed l.table l.initial.reader l.bytes).bytes;
}
