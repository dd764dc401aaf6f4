use Rattle.std.proofs.Common.{◌≡◌, drop}
use Rattle.tbl_blocks.specs.Filling as specs
use Rattle.tbl_blocks.proofs.filling.run_from.Given as goal

abbrev pub invariant-loop-part : goal.invariant-loop-part
invariant-loop-part l = specs.run_from l.cells (drop l.part-index l.parts) ≡ specs.run_from l.before l.parts
