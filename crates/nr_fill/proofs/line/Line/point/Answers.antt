use Rattle.std.proofs.Common.{length}
use Rattle.nr_fill.proofs.Pendings.{is_line_pending, are_small, needed_named}
use Rattle.nr_fill.proofs.line.Line.point.Goals as goal

pub invariant_of-self-2 : goal.invariant_of-self-2
invariant_of-self-2 c =
    let h = rw c.in-Some.is at c.self.invariant in
    let small = are_small h in
    let w = c.in-Some.word in
    is_line_pending c.at-word.result w.blanks h (rw (c.at-word.ensures, c.last_len-n.ensures) (needed_named c.args.point w.pending w.blanks w.parted (length c.self.inside.row.last) small.needed))
