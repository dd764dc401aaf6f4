use Rattle.std.proofs.Common.{◌≡◌, drop}
use Rattle.tbl_reader.specs.Options.{all_options, first_options}
use Rattle.tbl_reader.proofs.options.options_of.Given as goal

abbrev pub invariant-loop-byte : goal.invariant-loop-byte
invariant-loop-byte l = all_options (drop l.byte-index l.text) l.read ≡ all_options l.text first_options
