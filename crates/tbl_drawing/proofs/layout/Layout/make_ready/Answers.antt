use Rattle.std.proofs.Common.{ap, ◌∙◌}
use Rattle.tbl_drawing.specs.Tables.{measured, placed}
use Rattle.tbl_drawing.specs.declared.layout.Layout.{Layout}
use Rattle.tbl_drawing.proofs.layout.Layout.make_ready.Goals as goal

pub returns-clause-value : goal.returns-clause-value
returns-clause-value g c =
    c.measure.ensures.value
    ∙ ap (λ (l : Layout). measured l) (c.place.ensures.value ∙ ap (λ (l : Layout). placed l) c.open_columns.ensures.value)

pub returns-clause-room : goal.returns-clause-room
returns-clause-room g c = c.measure.ensures.room ∙ c.place.ensures.room ∙ c.open_columns.ensures.room
