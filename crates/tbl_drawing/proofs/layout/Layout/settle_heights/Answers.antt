use Rattle.std.proofs.Common.{◌≡◌, ◌==◌, length, sym, ap, ◌∙◌}
use Rattle.tbl_drawing.proofs.Choices.{left, taken}
use Rattle.tbl_drawing.specs.Heights.{first_heights, heights_read, rows_raised}
use Rattle.tbl_drawing.specs.Steps.{lines_taken, steps_taken}
use Rattle.tbl_drawing.specs.declared.layout.Layout.{Layout}
use Rattle.tbl_drawing.proofs.layout.Layout.settle_heights.Goals as goal

pub returns-then-none-clause-value : goal.returns-then-none-clause-value
returns-then-none-clause-value c =
    let l = c.args.self.now in
    let ends = c.args.ends in
    let first = first_heights ends l in
    let none = length l.grid.texts.items == 0 in
    c.settle_first_heights-lines.ensures.value
    ∙ sym (taken none first (steps_taken ends (rows_raised first)) (sym c.has_no_texts-none.ensures ∙ c.if-none.true))

pub returns-then-none-clause-lines : goal.returns-then-none-clause-lines
returns-then-none-clause-lines c =
    let l = c.args.self.now in
    let ends = c.args.ends in
    let first = first_heights ends l in
    let none = length l.grid.texts.items == 0 in
    c.settle_first_heights-lines.ensures.lines
    ∙ sym (taken none (lines_taken ends (heights_read l)) (lines_taken ends (rows_raised first)) (sym c.has_no_texts-none.ensures ∙ c.if-none.true))

pub returns-clause-value : goal.returns-clause-value
returns-clause-value c =
    let l = c.args.self.now in
    let ends = c.args.ends in
    let first = first_heights ends l in
    let none = length l.grid.texts.items == 0 in
    let raised : c.raise_rows.new.self ≡ rows_raised first =
    c.raise_rows.ensures.value ∙ ap (λ (x : Layout). rows_raised x) c.settle_first_heights-lines.ensures.value in
    c.take_steps.ensures.value ∙ ap (λ (x : Layout). steps_taken ends x) raised
    ∙ sym (left none first (steps_taken ends (rows_raised first)) (sym c.has_no_texts-none.ensures ∙ c.if-none.false))

pub returns-clause-lines : goal.returns-clause-lines
returns-clause-lines c =
    let l = c.args.self.now in
    let ends = c.args.ends in
    let first = first_heights ends l in
    let none = length l.grid.texts.items == 0 in
    let raised : c.raise_rows.new.self ≡ rows_raised first =
    c.raise_rows.ensures.value ∙ ap (λ (x : Layout). rows_raised x) c.settle_first_heights-lines.ensures.value in
    c.take_steps.ensures.lines ∙ ap (λ (x : Layout). lines_taken ends x) raised
    ∙ sym (left none (lines_taken ends (heights_read l)) (lines_taken ends (rows_raised first)) (sym c.has_no_texts-none.ensures ∙ c.if-none.false))

pub returns-clause-room : goal.returns-clause-room
returns-clause-room c = c.take_steps.ensures.room ∙ c.raise_rows.ensures.room ∙ c.settle_first_heights-lines.ensures.room
