use Rattle.std.proofs.Common.{◌≡◌, drop}
use Rattle.filters_complaints.specs.Blocks.{place_from}
use Rattle.filters_complaints.proofs.blocks.place_of.Given as goal

abbrev pub invariant-loop-i : goal.invariant-loop-i
invariant-loop-i l = place_from l.i l.name (drop l.i l.blocks) ≡ place_from 0 l.name l.blocks
