-- Those that came were taken that a table shows by their numbers.
use Rattle.std.proofs.Common.{◌≡◌, ◌++◌, drop}
use Rattle.utf8_own_page.specs.Lacking.{numbered}
use Rattle.utf8_own_page.proofs.lacking.numbered.Given as goal

abbrev pub invariant-loop-count : goal.invariant-loop-count
invariant-loop-count l = l.made.items ++ numbered l.target (drop l.count-index l.counts) ≡ numbered l.target l.counts
