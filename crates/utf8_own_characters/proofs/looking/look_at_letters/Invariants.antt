-- These were looked at, and the last letter of them waits.
use Rattle.std.proofs.Common.{◌≡◌, ◌-◌, ◌<◌, ◌≤◌, length, take, true}
use Rattle.utf8_own_characters.specs.Counting.{is_once}
use Rattle.utf8_own_characters.specs.Listening.{after, done_in}
use Rattle.utf8_own_characters.specs.Looking.{is_placed, seen}
use Rattle.utf8_own_characters.proofs.Runs.{holding}
use Rattle.utf8_own_characters.proofs.looking.look_at_letters.Given as goal

abbrev pub invariant-loop-next : goal.invariant-loop-next
invariant-loop-next l = record {
  some : 0 < l.count;
  within : l.count ≤ length l.bytes;
  room : l.counts.capacity ≡ l.fn.counts.capacity;
  once : is_once l.counts.items ≡ true;
  placed : is_placed l.last ≡ true;
  listener : after l.fn.listener (take l.count l.bytes) ≡ holding l.last;
  items : l.counts.items ≡ seen l.fn.counts.capacity l.fn.counts.items (done_in l.fn.listener (take l.count l.bytes));
}

abbrev pub decreases-loop-next : goal.decreases-loop-next
decreases-loop-next l = length l.bytes - l.count
