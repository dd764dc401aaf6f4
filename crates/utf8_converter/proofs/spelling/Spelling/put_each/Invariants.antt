-- What goes out of the bytes before stands there.
use Rattle.std.proofs.Common.{◌+◌, ◌*◌, ◌≤◌, take}
use Rattle.utf8_converter.specs.Spelling.{Puts, bytes_of}
use Rattle.utf8_converter.proofs.spelling.Spelling.put_each.Given as goal

abbrev pub invariant-loop-byte : goal.invariant-loop-byte
invariant-loop-byte l = record {
  put : Puts l.fn.room l.end l.room l.to (bytes_of l.reader.table (take l.byte-index l.bytes));
  few : l.to ≤ l.end + 4 * l.byte-index;
}
