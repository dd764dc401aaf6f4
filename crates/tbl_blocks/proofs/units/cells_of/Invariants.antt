use Rattle.std.proofs.Common.{◌≡◌, drop}
use Rattle.tbl_blocks.specs.Units.{cells_of}
use Rattle.tbl_blocks.proofs.units.cells_of.Given as goal

abbrev pub invariant-loop-known : goal.invariant-loop-known
invariant-loop-known l = cells_of l.name (drop l.known-index l.strings) ≡ cells_of l.name l.strings
