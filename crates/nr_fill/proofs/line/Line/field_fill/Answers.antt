use Rattle.std.proofs.Common.{arith}
use Rattle.nr_fill.proofs.Pendings.{are_small}
use Rattle.nr_fill.proofs.line.Line.field_fill.Goals as goal

pub overflow_sub-last_len : goal.overflow_sub-last_len
overflow_sub-last_len c =
    let h = rw c.in-Some.is at c.self.invariant in
    let small = are_small h in
    let needed = rw c.in-ForStop.is at small.needed in
    omega (arith, c.last_len.ensures)
