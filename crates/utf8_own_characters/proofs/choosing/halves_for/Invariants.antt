-- Fewer halves were too few.
use Rattle.std.proofs.Common.{ℕ, ◌-◌, ◌<◌, ◌≤◌}
use Rattle.utf8_own_characters.specs.Choosing.{pairs_in}
use Rattle.utf8_own_characters.proofs.choosing.halves_for.Given as goal

abbrev pub invariant-loop-halves : goal.invariant-loop-halves
invariant-loop-halves l = record {
  few : l.halves ≤ 128;
  least : (fewer : ℕ) → fewer < l.halves → pairs_in fewer < l.wide;
}

abbrev pub decreases-loop-halves : goal.decreases-loop-halves
decreases-loop-halves l = 128 - l.halves
