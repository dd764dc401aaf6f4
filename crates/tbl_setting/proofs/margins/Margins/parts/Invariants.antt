use Rattle.std.proofs.Common.{◌≡◌, drop}
use Rattle.tbl_setting.specs.Margins.{parts, sum_from}
use Rattle.tbl_setting.proofs.margins.Margins.parts.Given as goal

abbrev pub invariant-loop-rest : goal.invariant-loop-rest
invariant-loop-rest l = sum_from l.sum (drop l.rest-index l.self.rests.items) ≡ parts l.self
