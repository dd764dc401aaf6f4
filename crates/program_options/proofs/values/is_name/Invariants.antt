-- The bytes before the index may stand in a name.
use Rattle.std.proofs.Common.{◌≡◌, drop}
use Rattle.std.specs.List.{list_all}
use Rattle.program_options.specs.Values.{is_printable}
use Rattle.program_options.proofs.values.is_name.Given as goal

abbrev pub invariant-loop-byte : goal.invariant-loop-byte
invariant-loop-byte l = list_all is_printable l.bytes ≡ list_all is_printable (drop l.byte-index l.bytes)
