use Rattle.std.proofs.Common.{◌≡◌, ℕ, ◌-◌, ◌<◌, ◌≤◌, get_or, length, true}
use Rattle.utf8_own_sink.specs.Reading.{is_as_is}
use Rattle.utf8_own_sink.proofs.runs.as_is_len.Given as goal

abbrev pub invariant-loop-len : goal.invariant-loop-len
invariant-loop-len l = record {
  as_is : (i : ℕ) → i < l.len → is_as_is (get_or l.bytes i 0) ≡ true;
  within : l.len ≤ length l.bytes;
  few : l.len ≤ l.most;
}

abbrev pub decreases-loop-len : goal.decreases-loop-len
decreases-loop-len l = length l.bytes - l.len
