use Rattle.std.proofs.Common.{ap, ◌∙◌}
use Rattle.tbl_drawing.specs.Steps.{lines_taken, steps_taken}
use Rattle.tbl_drawing.specs.declared.layout.Layout.{Layout}
use Rattle.tbl_drawing.proofs.layout.Layout.settle_first_heights.Goals as goal

pub returns-clause-value : goal.returns-clause-value
returns-clause-value c = c.take_steps.ensures.value ∙ ap (λ (l : Layout). steps_taken c.args.ends l) c.read_heights.ensures.value

pub returns-clause-lines : goal.returns-clause-lines
returns-clause-lines c = c.take_steps.ensures.lines ∙ ap (λ (l : Layout). lines_taken c.args.ends l) c.read_heights.ensures.value

pub returns-clause-room : goal.returns-clause-room
returns-clause-room c = c.take_steps.ensures.room ∙ c.read_heights.ensures.room
