use Rattle.std.proofs.Common.{ap, ◌∙◌}
use Rattle.tbl_columns.specs.Cells.{placed_rows, settled_cells, settled_rows}
use Rattle.tbl_columns.proofs.grid.Grid.place_cells.Goals as goal

pub returns-clause-value : goal.returns-clause-value
returns-clause-value c =
    c.settle_cells.ensures.value ∙ ap settled_cells (c.settle_rows.ensures.value ∙ ap settled_rows (c.place_rows.ensures.value
    ∙ ap placed_rows c.forget_cells.ensures.value))

pub returns-clause-room : goal.returns-clause-room
returns-clause-room c = c.settle_cells.ensures.room ∙ c.settle_rows.ensures.room ∙ c.place_rows.ensures.room ∙ c.forget_cells.ensures.room
