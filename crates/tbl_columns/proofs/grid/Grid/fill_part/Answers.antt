use Rattle.std.proofs.Common.{ap, ◌∙◌}
use Rattle.tbl_columns.specs.Narrow.{lines_kept}
use Rattle.tbl_columns.specs.Texts.{all_filled_within}
use Rattle.tbl_columns.proofs.grid.Grid.fill_part.Goals as goal

pub returns-clause-value : goal.returns-clause-value
returns-clause-value c =
    c.fill_all_within.ensures.value ∙ ap all_filled_within (c.keep_lines.ensures.value ∙ ap lines_kept c.read_long_fields.ensures.value)

pub returns-clause-room : goal.returns-clause-room
returns-clause-room c = c.fill_all_within.ensures.room ∙ c.keep_lines.ensures.room ∙ c.read_long_fields.ensures.room
