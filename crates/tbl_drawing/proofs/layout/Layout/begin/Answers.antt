use Rattle.std.proofs.Common.{false, ap, ◌∙◌}
use Rattle.tbl_columns.specs.declared.grid.Grid.{Grid}
use Rattle.tbl_drawing.specs.Held.{emptied, forgotten_lines, with_grid}
use Rattle.tbl_drawing.specs.declared.layout.Layout.{Layout}
use Rattle.tbl_drawing.proofs.layout.Layout.begin.Goals as goal

pub returns-clause-value : goal.returns-clause-value
returns-clause-value c =
    ap (λ (l : Layout). record l { begun = false; measured = false })
    (c.forget_lines.ensures.value ∙ ap (λ (g : Grid). forgotten_lines (with_grid g c.args.self.now)) c.begin.ensures.value)

pub returns-clause-room : goal.returns-clause-room
returns-clause-room c =
    c.forget_lines.ensures.room ∙ ap (λ (g : Grid). record (emptied c.args.self.now) { grid = g }) c.begin.ensures.room
