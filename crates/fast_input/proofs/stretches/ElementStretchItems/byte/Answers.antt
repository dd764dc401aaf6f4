use Rattle.std.proofs.Common.{arith}
use Rattle.std.proofs.lemmas.Grind.{common_steps}
use Rattle.fast_input.proofs.stretches.ElementStretchItems.byte.Goals as goal

pub offset_bounds-self-n : goal.offset_bounds-self-n
offset_bounds-self-n c = grind (arith, common_steps)

pub bounds-self-n : goal.bounds-self-n
bounds-self-n c = grind (arith, common_steps)

pub bounds : goal.bounds
bounds c = grind (arith, common_steps)

pub bounds-self-n-in-Byte-1 : goal.bounds-self-n-in-Byte-1
bounds-self-n-in-Byte-1 c = grind (arith, common_steps)
