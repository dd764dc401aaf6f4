-- The lines of the settings before the index were added.
use Rattle.std.proofs.Common.{◌≡◌, ◌++◌, map, take}
use Rattle.std.specs.List.{flat_map}
use Rattle.program_options.specs.Job.{assignment_of}
use Rattle.program_plan.specs.Prefix.{assignment_line}
use Rattle.program_plan.proofs.prefix.put_settings.Given as goal

abbrev pub invariant-loop-setting : goal.invariant-loop-setting
invariant-loop-setting l = l.text.items ≡ l.fn.text.items ++ flat_map assignment_line (map assignment_of (take l.setting-index l.settings))
