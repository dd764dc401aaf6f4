-- What is left to look at.
use Rattle.std.proofs.Common.{◌≡◌, ◌+◌, drop}
use Rattle.utf8_own_characters.specs.Counting.{count_from}
use Rattle.utf8_own_characters.proofs.counting.sought_from.Given as goal

abbrev pub invariant-loop-count : goal.invariant-loop-count
invariant-loop-count l = record {
  place : l.place ≡ l.first + l.count-index;
  left : count_from l.first l.counts l.cluster ≡ count_from l.place (drop l.count-index l.counts) l.cluster;
}
