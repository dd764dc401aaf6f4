-- The bytes before `at` were turned.
use Rattle.std.proofs.Common.{◌≡◌, ℕ, ◌+◌, ◌-◌, ◌*◌, ◌≤◌, List, ◌++◌, Bool, length, take}
use Rattle.preconv_command.proofs.through.turn_all.Given as goal

abbrev pub invariant-loop-at : goal.invariant-loop-at
invariant-loop-at g l = record {
  within : l.at ≤ length l.bytes;
  says : (ends : Bool) → (rest : List ℕ) → l.fn.out.items ++ g.T.Stage.says l.fn.stage ends (take l.at l.bytes ++ rest) ≡ l.out.items ++ g.T.Stage.says l.stage ends rest;
  few : length l.out.items ≤ length l.fn.out.items + g.T.Stage.wants l.fn.stage * l.at;
  wants : g.T.Stage.wants l.stage ≡ g.T.Stage.wants l.fn.stage;
  room : l.out.capacity ≡ l.fn.out.capacity;
}

abbrev pub decreases-loop-at : goal.decreases-loop-at
decreases-loop-at g l = length l.bytes - l.at
