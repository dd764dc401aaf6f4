use Rattle.std.proofs.Common.{◌≡◌, drop}
use Rattle.tbl_blocks.specs.Extents.{measured_from, nothing_measured}
use Rattle.tbl_blocks.proofs.blocks.Blocks.extent.Given as goal

abbrev pub invariant-loop-at : goal.invariant-loop-at
invariant-loop-at l = measured_from (drop l.at l.text) l.strings l.measured ≡ measured_from l.text l.strings nothing_measured
