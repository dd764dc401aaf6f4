use Rattle.std.proofs.Common.{◌≡◌, ◌++◌, map, take, drop}
use Rattle.nr_pool.specs.Slot.{shifted}
use Rattle.nr_pool.proofs.slot.shift_after.Given as goal

abbrev pub invariant-loop-i : goal.invariant-loop-i
invariant-loop-i l = l.slots ≡ map (shifted l.end l.n) (take l.i l.initial.slots) ++ drop l.i l.initial.slots
