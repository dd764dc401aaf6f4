-- The names before the index are none of manual pages.
use Rattle.std.proofs.Common.{◌≡◌, drop}
use Rattle.program_options.specs.Job.{texts}
use Rattle.program_plan.specs.Macros.{has_manual}
use Rattle.program_plan.proofs.macros.has_manual.Given as goal

abbrev pub invariant-loop-name : goal.invariant-loop-name
invariant-loop-name l = has_manual (texts l.names) ≡ has_manual (texts (drop l.name-index l.names))
