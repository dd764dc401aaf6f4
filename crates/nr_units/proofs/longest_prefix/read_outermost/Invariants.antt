use Rattle.nr_units.specs.Scan.{outermost}
use Rattle.nr_units.proofs.Longest.{Reads}
use Rattle.nr_units.proofs.longest_prefix.read_outermost.Given as goal

abbrev pub invariant-loop-at : goal.invariant-loop-at
invariant-loop-at l = Reads l.ctx l.text l.at (outermost l.level) l.longest
