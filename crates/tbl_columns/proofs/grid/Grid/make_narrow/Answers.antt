use Rattle.std.proofs.Common.{ap, ◌∙◌}
use Rattle.tbl_columns.specs.declared.grid.Grid.{Grid}
use Rattle.tbl_columns.specs.Frames.{laid_out}
use Rattle.tbl_columns.specs.Narrow.{blocks_counted, cells_taken, least, lines_kept}
use Rattle.tbl_columns.specs.Texts.{all_filled_within}
use Rattle.tbl_columns.proofs.grid.Grid.make_narrow.Goals as goal

pub returns-clause-value : goal.returns-clause-value
returns-clause-value c =
    let taken = c.take_cells.ensures.value ∙ ap (λ (g : Grid). cells_taken c.args.cells (least g) g) c.read_long_fields.ensures.value in
    let filled = c.fill_all_within.ensures.value ∙ ap all_filled_within (c.keep_lines.ensures.value ∙ ap lines_kept taken) in
    c.lay_out.ensures.value ∙ ap laid_out (c.count_blocks.ensures.value ∙ ap blocks_counted filled)

pub returns-clause-room : goal.returns-clause-room
returns-clause-room c =
    c.lay_out.ensures.room ∙ c.count_blocks.ensures.room ∙ c.fill_all_within.ensures.room ∙ c.keep_lines.ensures.room ∙ c.take_cells.ensures.room
    ∙ c.read_long_fields.ensures.room
