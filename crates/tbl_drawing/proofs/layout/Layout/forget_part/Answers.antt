use Rattle.std.proofs.Common.{true, ap, ◌∙◌}
use Rattle.tbl_columns.specs.declared.grid.Grid.{Grid}
use Rattle.tbl_drawing.specs.Held.{emptied, forgotten_lines}
use Rattle.tbl_drawing.proofs.layout.Layout.forget_part.Goals as goal

pub returns-clause-value : goal.returns-clause-value
returns-clause-value c =
    c.forget_lines.ensures.value ∙ ap (λ (g : Grid). forgotten_lines (record c.args.self.now { grid = g; begun = true })) c.forget_rows.ensures.value

pub returns-clause-room : goal.returns-clause-room
returns-clause-room c =
    c.forget_lines.ensures.room ∙ ap (λ (g : Grid). record (emptied c.args.self.now) { grid = g }) c.forget_rows.ensures.room
