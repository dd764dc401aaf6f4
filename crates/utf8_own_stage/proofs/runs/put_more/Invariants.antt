-- What was put so far is what comes of the bytes that were read.
use Rattle.std.proofs.Common.{◌≡◌, ◌+◌, ◌-◌, ◌*◌, ◌≤◌, ◌++◌, length, take, true}
use Rattle.utf8_own_stage.specs.Coding.{said_of}
use Rattle.utf8_own_stage.specs.Letters.{holding, is_common, is_quiet}
use Rattle.utf8_own_stage.proofs.LettersMore.{After}
use Rattle.utf8_own_stage.proofs.runs.put_more.Given as goal

abbrev pub invariant-loop-next : goal.invariant-loop-next
invariant-loop-next l = record {
  within : l.count ≤ length l.bytes;
  room : l.out.capacity ≡ l.fn.out.capacity;
  few : length l.out.items ≤ length l.fn.out.items + 32 * l.count;
  beyond : 128 ≤ l.letter;
  quiet : is_quiet l.place ≡ true;
  common : l.last ≡ is_common l.place.before;
  so_far : After (holding l.fn.first) (holding l.letter) l.fn.place l.place l.bytes l.count;
  items : l.out.items ≡ l.fn.out.items ++ said_of l.table (holding l.fn.first) l.fn.place (take l.count l.bytes);
}

abbrev pub decreases-loop-next : goal.decreases-loop-next
decreases-loop-next l = length l.bytes - l.count
