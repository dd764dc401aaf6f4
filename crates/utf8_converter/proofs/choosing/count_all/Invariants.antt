use Rattle.utf8_converter.specs.Choosing.{Counts}
use Rattle.utf8_converter.proofs.choosing.count_all.Given as goal

abbrev pub invariant-loop-place : goal.invariant-loop-place
invariant-loop-place l = Counts l.page l.place l.counts
