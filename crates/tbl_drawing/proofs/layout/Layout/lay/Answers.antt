use Rattle.std.proofs.Common.{not, ap, ◌∙◌}
use Rattle.tbl_drawing.specs.Heights.{lines_settled}
use Rattle.tbl_drawing.specs.declared.layout.Layout.{Layout}
use Rattle.tbl_drawing.proofs.layout.Layout.lay.Goals as goal

pub returns-clause-value : goal.returns-clause-value
returns-clause-value c =
    ap (λ (l : Layout). record l { measured = not c.args.ends })
    (c.settle_lines.ensures.value ∙ ap (λ (l : Layout). lines_settled l) c.settle_heights-lines.ensures.value)

pub returns-clause-room : goal.returns-clause-room
returns-clause-room c = c.settle_lines.ensures.room ∙ c.settle_heights-lines.ensures.room
