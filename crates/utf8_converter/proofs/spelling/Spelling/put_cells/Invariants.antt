-- Those before are out.
use Rattle.std.proofs.Common.{◌+◌, ◌-◌, ◌≤◌}
use Rattle.utf8_converter.specs.Spelling.{Goes}
use Rattle.utf8_converter.proofs.spelling.Spelling.put_cells.Given as goal

abbrev pub invariant-loop-taken : goal.invariant-loop-taken
invariant-loop-taken l = record {
  goes : Goes l.fn.reader l.reader l.bytes l.taken l.fn.room l.end l.room l.to;
  few : l.taken ≤ l.until + 2;
}

abbrev pub decreases-loop-taken : goal.decreases-loop-taken
decreases-loop-taken l = l.until - l.taken
