use Rattle.std.proofs.Common.{◌≡◌, drop}
use Rattle.tbl_reader.specs.Fields.{comment_in}
use Rattle.tbl_reader.proofs.Finding.{moved}
use Rattle.tbl_reader.proofs.rows.comment_in.Given as goal

abbrev pub invariant-loop-at : goal.invariant-loop-at
invariant-loop-at l = moved l.at (comment_in (drop l.at l.text)) ≡ comment_in l.text
