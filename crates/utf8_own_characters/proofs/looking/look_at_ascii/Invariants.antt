-- These were looked at, and of the last of them what comes is not yet heard.
use Rattle.std.proofs.Common.{◌≡◌, ◌-◌, ◌<◌, ◌≤◌, length, take, true}
use Rattle.utf8_own_characters.specs.Counting.{is_once}
use Rattle.utf8_own_characters.specs.Listening.{after, done_in}
use Rattle.utf8_own_characters.specs.Looking.{after_byte, seen}
use Rattle.utf8_own_characters.proofs.looking.look_at_ascii.Given as goal

abbrev pub invariant-loop-count : goal.invariant-loop-count
invariant-loop-count l = record {
  some : 0 < l.count;
  within : l.count ≤ length l.bytes;
  ascii : l.last < 128;
  listener : after l.fn.listener (take l.count l.bytes) ≡ after_byte l.last l.is_plain;
  items : l.counts.items ≡ seen l.fn.counts.capacity l.fn.counts.items (done_in l.fn.listener (take l.count l.bytes));
}

abbrev pub decreases-loop-count : goal.decreases-loop-count
decreases-loop-count l = length l.bytes - l.count
