use Rattle.std.proofs.Common.{◌≡◌, drop}
use Rattle.tbl_blocks.specs.Filling.{longest_from}
use Rattle.tbl_blocks.proofs.filling.longest_from.Given as goal

abbrev pub invariant-loop-part : goal.invariant-loop-part
invariant-loop-part l = longest_from l.words l.most l.before (drop l.part-index l.parts) ≡ longest_from l.words l.first l.first l.parts
