use Rattle.std.proofs.Common.{◌≡◌, drop}
use Rattle.tbl_reader.specs.Heads.{options_end_in, options_end}
use Rattle.tbl_reader.proofs.Finding.{moved}
use Rattle.tbl_reader.proofs.head.options_end.Given as goal

abbrev pub invariant-loop-at : goal.invariant-loop-at
invariant-loop-at l = moved l.at (options_end_in l.opened (drop l.at l.line)) ≡ options_end l.line
