use Rattle.nr_units.specs.Scanner.{scan_of}
use Rattle.nr_units.proofs.Longest.{Reads}
use Rattle.nr_units.proofs.longest_prefix.read_nested.Given as goal

abbrev pub invariant-loop-at : goal.invariant-loop-at
invariant-loop-at l = Reads l.ctx l.text l.at (scan_of l.scanner) l.longest
