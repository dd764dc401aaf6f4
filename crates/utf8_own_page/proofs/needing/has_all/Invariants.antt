-- Those that came are there.
use Rattle.std.proofs.Common.{◌≡◌, drop}
use Rattle.utf8_own_page.specs.Needing.{has_all}
use Rattle.utf8_own_page.proofs.needing.has_all.Given as goal

abbrev pub invariant-loop-count : goal.invariant-loop-count
invariant-loop-count l = has_all l.table (drop l.count-index l.counts) ≡ has_all l.table l.counts
