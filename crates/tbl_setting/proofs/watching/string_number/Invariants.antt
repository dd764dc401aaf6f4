use Rattle.std.proofs.Common.{◌≡◌, drop}
use Rattle.tbl_setting.specs.Watching.{number_from}
use Rattle.tbl_setting.proofs.watching.string_number.Given as goal

abbrev pub invariant-loop-number : goal.invariant-loop-number
invariant-loop-number l = number_from l.number l.name (drop l.number l.strings) ≡ number_from 0 l.name l.strings
