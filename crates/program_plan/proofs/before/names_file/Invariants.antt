-- None of the names before the index is of that file.
use Rattle.std.proofs.Common.{◌≡◌, drop}
use Rattle.program_options.specs.Job.{texts}
use Rattle.program_plan.specs.Macros.{names_file}
use Rattle.program_plan.proofs.before.names_file.Given as goal

abbrev pub invariant-loop-name : goal.invariant-loop-name
invariant-loop-name l = names_file l.file (texts l.names) ≡ names_file l.file (texts (drop l.name-index l.names))
