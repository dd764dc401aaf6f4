-- What is still to be looked at.
use Rattle.std.proofs.Common.{◌≡◌, ◌-◌, ◌≤◌, true, drop, length}
use Rattle.utf8_own_characters.specs.Counting.{is_once}
use Rattle.utf8_own_characters.specs.Listening.{after, done_in}
use Rattle.utf8_own_characters.specs.Looking.{seen}
use Rattle.utf8_own_characters.proofs.looking.look_at.Given as goal

abbrev pub invariant-loop-count : goal.invariant-loop-count
invariant-loop-count l = record {
  within : l.count ≤ length l.bytes;
  room : l.counts.capacity ≡ l.fn.counts.capacity;
  once : is_once l.counts.items ≡ true;
  listener : after l.listener (drop l.count l.bytes) ≡ after l.fn.listener l.bytes;
  items : seen l.fn.counts.capacity l.counts.items (done_in l.listener (drop l.count l.bytes))
      ≡ seen l.fn.counts.capacity l.fn.counts.items (done_in l.fn.listener l.bytes);
}

abbrev pub decreases-loop-count : goal.decreases-loop-count
decreases-loop-count l = length l.bytes - l.count
