-- Those before are out, no look is open, and the room isn't filled.
use Rattle.std.proofs.Common.{◌≡◌, ◌-◌, ◌≤◌, length, true}
use Rattle.utf8_converter.specs.Spelling.{Goes, is_shut}
use Rattle.utf8_converter.proofs.spelling.Spelling.put_all.Given as goal

abbrev pub invariant-loop-taken : goal.invariant-loop-taken
invariant-loop-taken l = record {
  goes : Goes l.fn.reader l.reader l.bytes l.taken l.fn.room l.begin l.room l.end;
  shut : is_shut l.reader.way ≡ true;
  few : l.end ≤ 1536;
}

abbrev pub decreases-loop-taken : goal.decreases-loop-taken
decreases-loop-taken l = length l.bytes - l.taken
