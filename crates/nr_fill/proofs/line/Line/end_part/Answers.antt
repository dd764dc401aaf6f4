use Rattle.std.proofs.Common.{length}
use Rattle.nr_fill.proofs.Lines.{is_line_titled, parted-next_state}
use Rattle.nr_fill.proofs.line.Line.end_part.Goals as goal

pub invariant_of-self : goal.invariant_of-self
invariant_of-self c =
    let some = c.self.invariant.title_is c.in-Some.title c.in-Some.is in
    rw (c.next.ensures, c.title_len.ensures) (is_line_titled _ c.self.invariant (parted-next_state c.in-Some.title (length c.self.inside.row.title) some))
