-- The names before the index are there.
use Rattle.std.proofs.Common.{◌≡◌, length, map, take}
use Rattle.program_options.specs.Job.{texts}
use Rattle.program_plan.specs.Macros.{file_name}
use Rattle.program_plan.proofs.texts.file_names.Given as goal

abbrev pub invariant-loop-name : goal.invariant-loop-name
invariant-loop-name l = record {
  size : length l.files.items ≡ l.name-index;
  made : texts l.files.items ≡ map file_name (texts (take l.name-index l.names));
}
