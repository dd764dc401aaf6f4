use Rattle.std.proofs.Common.{length}
use Rattle.nr_fill.proofs.Pendings.{is_line_pending, are_small, needed_none}
use Rattle.nr_fill.proofs.line.Line.keep_blanks.Goals as goal

pub invariant_of-self-2 : goal.invariant_of-self-2
invariant_of-self-2 c =
    let h = rw c.in-Some.is at c.self.invariant in
    let small = are_small h in
    let w = c.in-Some.word in
    is_line_pending w.pending 0 h (needed_none w.pending w.blanks w.parted (length c.self.inside.row.last) small.needed)
