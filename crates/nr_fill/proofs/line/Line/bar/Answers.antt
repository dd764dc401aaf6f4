use Rattle.std.proofs.Common.{length}
use Rattle.nr_fill.proofs.Pendings.{is_line_pending, are_small, needed_soft}
use Rattle.nr_fill.proofs.line.Line.bar.Goals as goal

pub invariant_of-self-2 : goal.invariant_of-self-2
invariant_of-self-2 c =
    let h = rw c.in-Some.is at c.self.invariant in
    let small = are_small h in
    let w = c.in-Some.word in
    is_line_pending c.soft-word.result w.blanks h (rw (c.soft-word.ensures, c.last_len-n.ensures) (needed_soft w.pending w.blanks w.parted (length c.self.inside.row.last) small.needed))
