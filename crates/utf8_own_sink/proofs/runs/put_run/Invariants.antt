-- What comes of those before and those to come is the same.
use Rattle.std.proofs.Common.{◌≡◌, ◌≤◌, ◌-◌, ◌+◌, ◌*◌, drop, length, true}
use Rattle.utf8_own_sink.specs.Letters.{is_plain}
use Rattle.utf8_own_sink.specs.Reading.{Moves, resting}
use Rattle.utf8_own_sink.specs.declared.letters.Way.{Way}
use Rattle.utf8_own_sink.proofs.runs.put_run.Given as goal

abbrev pub invariant-loop-len : goal.invariant-loop-len
invariant-loop-len l = record {
  within : l.len ≤ length l.bytes;
  room : l.out.capacity ≡ l.initial.out.capacity;
  few : length l.out.items ≤ length l.initial.out.items + 4 * l.len;
  moves : (way : Way) → is_plain way ≡ true → Moves l.table (resting way) (resting way) l.initial.out.items l.out.items l.bytes (drop l.len l.bytes);
}

abbrev pub decreases-loop-len : goal.decreases-loop-len
decreases-loop-len l = length l.bytes - l.len
