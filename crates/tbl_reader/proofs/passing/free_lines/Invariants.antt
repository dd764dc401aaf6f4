use Rattle.std.proofs.Common.{◌≤◌, ◌-◌, length}
use Rattle.tbl_reader.specs.Reading.{AreFree}
use Rattle.tbl_reader.proofs.passing.free_lines.Given as goal

abbrev pub invariant-loop-lines : goal.invariant-loop-lines
invariant-loop-lines l = record {
  free : AreFree l.lines l.bytes;
  within : l.lines.len ≤ length l.bytes;
  few : l.lines.count ≤ l.lines.len;
}

abbrev pub decreases-loop-lines : goal.decreases-loop-lines
decreases-loop-lines l = length l.bytes - l.lines.len
