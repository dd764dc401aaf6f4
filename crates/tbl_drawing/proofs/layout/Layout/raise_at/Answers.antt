use Rattle.std.proofs.Common.{◌&&◌, sym, ap, ◌∙◌, if◌then◌else◌}
use Rattle.tbl_columns.specs.Columns.{is_given}
use Rattle.tbl_columns.specs.declared.grid.Cell.{Cell}
use Rattle.tbl_drawing.proofs.Choices.{left, taken}
use Rattle.tbl_drawing.specs.Heights.{raised_below}
use Rattle.tbl_drawing.proofs.layout.Layout.raise_at.Goals as goal

pub returns-then-not-is_falling_block-clause-value : goal.returns-then-not-is_falling_block-clause-value
returns-then-not-is_falling_block-clause-value c =
    let l = c.args.self.now in
    let f = c.cell_of-cell.result in
    sym (left (f.falls && is_given f.block) (raised_below f l) l (sym c.is_falling_block.ensures ∙ c.if-not-is_falling_block.true))
    ∙ ap (λ (x : Cell). if x.falls && is_given x.block then raised_below x l else l) c.cell_of-cell.ensures

pub returns-clause-value : goal.returns-clause-value
returns-clause-value c =
    let l = c.args.self.now in
    let f = c.cell_of-cell.result in
    c.raise_below.ensures.value
    ∙ sym (taken (f.falls && is_given f.block) (raised_below f l) l (sym c.is_falling_block.ensures ∙ c.if-not-is_falling_block.false))
    ∙ ap (λ (x : Cell). if x.falls && is_given x.block then raised_below x l else l) c.cell_of-cell.ensures
