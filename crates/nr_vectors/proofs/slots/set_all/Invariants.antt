use Rattle.std.proofs.Common.{◌≡◌, take, replicate}
use Rattle.nr_vectors.proofs.slots.set_all.Given as goal

abbrev pub invariant-loop-slot : goal.invariant-loop-slot
invariant-loop-slot g l = take l.slot-index l.slots ≡ replicate l.slot-index l.item
