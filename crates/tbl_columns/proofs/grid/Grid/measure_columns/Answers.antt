use Rattle.std.proofs.Common.{ap, false, ◌∙◌}
use Rattle.tbl_columns.specs.Columns.{made_equal, measured_spans}
use Rattle.tbl_columns.specs.Frames.{laid_out}
use Rattle.tbl_columns.specs.Measured.{line_shared}
use Rattle.tbl_columns.specs.Texts.{filled_blocks}
use Rattle.tbl_columns.proofs.grid.Grid.measure_columns.Goals as goal

pub returns-clause-value : goal.returns-clause-value
returns-clause-value c =
    let even = c.make_equal.ensures.value ∙ ap made_equal c.measure_fields.ensures.value in
    let spanned = c.make_equal-2.ensures.value ∙ ap made_equal (c.measure_spans.ensures.value ∙ ap measured_spans even) in
    let filled = c.make_equal-3.ensures.value ∙ ap made_equal (c.fill_blocks.ensures.value ∙ ap (filled_blocks false) spanned) in
    let shared = c.share_line.ensures.value ∙ ap line_shared (c.lay_out.ensures.value ∙ ap laid_out filled) in
    c.lay_out-2.ensures.value ∙ ap laid_out shared

pub returns-clause-room : goal.returns-clause-room
returns-clause-room c =
    c.lay_out-2.ensures.room ∙ c.share_line.ensures.room ∙ c.lay_out.ensures.room ∙ c.make_equal-3.ensures.room ∙ c.fill_blocks.ensures.room
    ∙ c.make_equal-2.ensures.room ∙ c.measure_spans.ensures.room ∙ c.make_equal.ensures.room ∙ c.measure_fields.ensures.room
