use Rattle.std.proofs.Common.{◌∙◌}
use Rattle.tbl_drawing.proofs.layout.Layout.walk_own_row.Goals as goal

pub returns-clause-room : goal.returns-clause-room
returns-clause-room c = c.add_row.ensures.room ∙ c.set_step.ensures.room ∙ c.release_rule-walk.ensures.room ∙ c.add_step-walk.ensures.room
