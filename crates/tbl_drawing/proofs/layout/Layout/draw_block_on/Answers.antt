use Rattle.std.proofs.Common.{◌≡◌, ℕ, ◌-◌, Bool, true, false, nat_le, [], sym, ap, ◌∙◌}
use Rattle.tbl_drawing.proofs.Choices.{chosen}
use Rattle.tbl_drawing.proofs.Chosen.{nothing_chosen}
use Rattle.tbl_drawing.proofs.Tapes.{draws_same}
use Rattle.tbl_drawing.specs.Drawing.{block_strokes}
use Rattle.tbl_drawing.specs.Held.{begin_line}
use Rattle.tbl_drawing.proofs.layout.Layout.draw_block_on.Goals as goal

pub returns-then-not-begins_by : goal.returns-then-not-begins_by
returns-then-not-begins_by g c =
    let l = c.args.self.now in
    let begin = begin_line l c.args.number in
    nothing_chosen (nat_le begin c.args.line) (block_strokes l c.args.cell.now c.args.block (c.args.line - begin))
    (ap (λ (n : ℕ). nat_le n c.args.line) (sym c.begin_line-begin.ensures) ∙ sym c.begins_by.ensures ∙ c.if-not-begins_by.true)

pub returns : goal.returns
returns g c =
    let l = c.args.self.now in
    let begin = begin_line l c.args.number in
    draws_same c.draw_block.ensures
    (chosen (nat_le begin c.args.line) (block_strokes l c.args.cell.now c.args.block (c.args.line - begin)) []
    (ap (λ (n : ℕ). nat_le n c.args.line) (sym c.begin_line-begin.ensures) ∙ sym c.begins_by.ensures ∙ c.if-not-begins_by.false)
    ∙ ap (λ (n : ℕ). block_strokes l c.args.cell.now c.args.block (c.args.line - n)) (sym c.begin_line-begin.ensures)
    ∙ ap (λ (n : ℕ). block_strokes l c.args.cell.now c.args.block n) (sym c.saturating_sub.ensures))
