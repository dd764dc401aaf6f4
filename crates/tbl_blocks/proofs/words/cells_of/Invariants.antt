use Rattle.std.proofs.Common.{◌≡◌, drop}
use Rattle.tbl_blocks.specs.Words.{cells_after}
use Rattle.tbl_blocks.proofs.words.cells_of.Given as goal

abbrev pub invariant-loop-part : goal.invariant-loop-part
invariant-loop-part l = cells_after l.cells (drop l.part-index l.parts) ≡ cells_after 0 l.parts
