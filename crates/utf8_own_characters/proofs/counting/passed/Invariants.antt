-- What is left to look at.
use Rattle.std.proofs.Common.{◌≡◌, ◌-◌, ◌≤◌, drop, length}
use Rattle.utf8_own_characters.specs.Counting.{count_from}
use Rattle.utf8_own_characters.proofs.counting.passed.Given as goal

abbrev pub invariant-loop-count : goal.invariant-loop-count
invariant-loop-count l = record {
  within : l.count ≤ length l.counts;
  left : count_from 0 l.counts l.cluster ≡ count_from l.count (drop l.count l.counts) l.cluster;
}

abbrev pub decreases-loop-count : goal.decreases-loop-count
decreases-loop-count l = length l.counts - l.count
