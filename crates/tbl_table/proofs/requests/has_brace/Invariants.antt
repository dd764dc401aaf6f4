use Rattle.std.proofs.Common.{◌≡◌, drop}
use Rattle.tbl_table.specs.Requests as specs
use Rattle.tbl_table.proofs.requests.has_brace.Given as goal

abbrev pub invariant-loop-at : goal.invariant-loop-at
invariant-loop-at l = specs.has_brace l.brace (drop l.at l.text) ≡ specs.has_brace l.brace l.text
