-- What came was added.
use Rattle.std.proofs.Common.{◌≡◌, Some}
use Rattle.nr_units.specs.Source.{Supply}
use Rattle.program_command.proofs.Reading.{Adds}
use Rattle.program_command.proofs.running.add_all.Given as goal

abbrev pub invariant-loop : goal.invariant-loop
invariant-loop g l = (q : Supply) → g.S.Source.supply l.initial.source ≡ Some q
    → Adds l.initial.text.items l.text.items q (g.S.Source.supply l.source)
