-- What goes out of the pieces before stands there.
use Rattle.std.proofs.Common.{◌≡◌, ◌+◌, ◌*◌, ◌-◌, ◌%◌, ◌≤◌, take}
use Rattle.utf8_converter.specs.Spelling.{Puts, bytes_of}
use Rattle.utf8_converter.proofs.spelling.Spelling.put_chunk.Given as goal

abbrev pub invariant-loop-at : goal.invariant-loop-at
invariant-loop-at l = record {
  put : Puts l.fn.room l.end l.room l.to (bytes_of l.reader.table (take l.at l.bytes));
  few : l.to ≤ l.end + 4 * l.at;
  whole : l.at % 8 ≡ 0;
  within : l.at ≤ 32;
}

abbrev pub decreases-loop-at : goal.decreases-loop-at
decreases-loop-at l = 32 - l.at
