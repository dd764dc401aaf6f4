use Rattle.std.proofs.Common.{◌≡◌, drop}
use Rattle.tbl_table.specs.Requests as specs
use Rattle.tbl_table.proofs.requests.after_digits.Given as goal

abbrev pub invariant-loop-at : goal.invariant-loop-at
invariant-loop-at l = specs.after_digits (drop l.at l.text) ≡ specs.after_digits l.text
