-- What was put so far is what comes of the bytes that were read.
use Rattle.std.proofs.Common.{◌≡◌, ◌+◌, ◌-◌, ◌*◌, ◌<◌, ◌≤◌, ◌++◌, length, take, true}
use Rattle.utf8_own_characters.specs.Table.{Characters}
use Rattle.utf8_own_stage.specs.Coding.{said_of}
use Rattle.utf8_own_stage.specs.Plain.{is_ready}
use Rattle.utf8_own_stage.proofs.LettersMore.{After}
use Rattle.utf8_own_stage.proofs.plain.put_plain.Given as goal

abbrev pub invariant-loop-count : goal.invariant-loop-count
invariant-loop-count l = record {
  some : 0 < l.count;
  within : l.count ≤ length l.bytes;
  room : l.out.capacity ≡ l.fn.out.capacity;
  few : length l.out.items ≤ length l.fn.out.items + 2 * l.count;
  ready : is_ready l.heard l.here ≡ true;
  so_far : After l.fn.listener l.heard l.fn.place l.here l.bytes l.count;
  items : (t : Characters) → l.out.items ≡ l.fn.out.items ++ said_of t l.fn.listener l.fn.place (take l.count l.bytes);
}

abbrev pub decreases-loop-count : goal.decreases-loop-count
decreases-loop-count l = length l.bytes - l.count
