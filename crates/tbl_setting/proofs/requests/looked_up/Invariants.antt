use Rattle.std.proofs.Common.{◌≡◌, drop}
use Rattle.tbl_setting.specs.Requests.{looked_up}
use Rattle.tbl_setting.proofs.requests.looked_up.Given as goal

abbrev pub invariant-loop-entry : goal.invariant-loop-entry
invariant-loop-entry l = looked_up (drop l.entry-index l.table) l.first l.second ≡ looked_up l.table l.first l.second
