use Rattle.std.proofs.Common.{length, ap, ◌∙◌}
use Rattle.tbl_command.proofs.Looked.{reported_of}
use Rattle.tbl_command.proofs.looking.look_at.Goals as goal

pub returns-in-Done : goal.returns-in-Done
returns-in-Done g c = λ q known.
    let room = c.convert.ensures.room ∙ (c.over-complaints.ensures.room ∙ (ap (λ xs. length xs) c.deref_mut.ensures.value ∙ c.in_ok-rooms.ensures.complaints)) in
    reported_of c.args.job c.in_ok-rooms.rooms.held _ _ _ _ c.convert.new.complaints (record { report = c.convert.result.0; complaints = c.in_ok-complaints-in-Done.complaints }) q
    c.in_ok-rooms.ensures.held known (rw c.in-Done.is at c.convert.ensures.ran) room (c.in_ok-complaints-in-Done.ensures.items ∙ c.as_slice.ensures.value)
