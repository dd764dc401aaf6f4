-- What is still to come.
use Rattle.std.proofs.Common.{◌≡◌, ◌+◌, ◌-◌, ◌*◌, ◌≤◌, ◌++◌, drop, length}
use Rattle.utf8_own_characters.specs.Listening.{after}
use Rattle.utf8_own_stage.specs.Coding.{place_after_all, said_of}
use Rattle.utf8_own_stage.proofs.coding.put_all.Given as goal

abbrev pub invariant-loop-count : goal.invariant-loop-count
invariant-loop-count l = record {
  within : l.count ≤ length l.bytes;
  room : l.out.capacity ≡ l.fn.out.capacity;
  few : length l.out.items ≤ length l.fn.out.items + 32 * l.count;
  listener : after l.listener (drop l.count l.bytes) ≡ after l.fn.listener l.bytes;
  place : place_after_all l.listener l.place (drop l.count l.bytes) ≡ place_after_all l.fn.listener l.fn.place l.bytes;
  items : l.out.items ++ said_of l.table l.listener l.place (drop l.count l.bytes) ≡ l.fn.out.items ++ said_of l.table l.fn.listener l.fn.place l.bytes;
}

abbrev pub decreases-loop-count : goal.decreases-loop-count
decreases-loop-count l = length l.bytes - l.count
