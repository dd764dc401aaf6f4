use Rattle.std.proofs.Common.{◌≡◌, ◌+◌, ◌-◌, ◌<◌, ◌==◌, true, false, None, Some, length, sym, ◌∙◌, arith}
use Rattle.std.proofs.lemmas.Bool.Decides.{nat_tests}
use Rattle.tbl_table.specs.Sums.{sum}
use Rattle.tbl_columns.proofs.Choices.{left, taken}
use Rattle.tbl_columns.proofs.Lines.{back_here, back_later}
use Rattle.tbl_columns.proofs.grid.Grid.line_in_row.Goals as goal

pub returns-then-line-row-2 : goal.returns-then-line-row-2
returns-then-line-row-2 c =
    let ls = c.args.self.now.blocks.lines.items in
    let number = c.saturating_add-number.result in
    let at : number ≡ sum c.args.block.line (c.min-most.result - 1 - c.loop-back.back) = omega (arith, c.saturating_add-number.ensures) in
    let inside : number < length ls = omega (arith, c.if-number-len.false, c.len.ensures.value) in
    let l = c.get-line.result in
    let is : (l.row == c.args.row) ≡ true = grind (arith, nat_tests, c.if-line-row-2.true) in
    sym (taken (l.row == c.args.row) (Some l) None is)
    ∙ sym (back_here c.min-most.result c.loop-back.back c.args.block.line c.args.row number ls l c.loop-back-test.true at inside c.get-line.ensures c.if-line-row.true)
    ∙ c.loop-back.invariant

pub returns-else-line-row-2 : goal.returns-else-line-row-2
returns-else-line-row-2 c =
    let ls = c.args.self.now.blocks.lines.items in
    let number = c.saturating_add-number.result in
    let at : number ≡ sum c.args.block.line (c.min-most.result - 1 - c.loop-back.back) = omega (arith, c.saturating_add-number.ensures) in
    let inside : number < length ls = omega (arith, c.if-number-len.false, c.len.ensures.value) in
    let l = c.get-line.result in
    let is : (l.row == c.args.row) ≡ false = grind (arith, nat_tests, c.if-line-row-2.false) in
    sym (left (l.row == c.args.row) (Some l) None is)
    ∙ sym (back_here c.min-most.result c.loop-back.back c.args.block.line c.args.row number ls l c.loop-back-test.true at inside c.get-line.ensures c.if-line-row.true)
    ∙ c.loop-back.invariant

pub loop-back-preserved : goal.loop-back-preserved
loop-back-preserved c =
    let ls = c.args.self.now.blocks.lines.items in
    let number = c.saturating_add-number.result in
    let at : number ≡ sum c.args.block.line (c.min-most.result - 1 - c.loop-back.back) = omega (arith, c.saturating_add-number.ensures) in
    let inside : number < length ls = omega (arith, c.if-number-len.false, c.len.ensures.value) in
    let l = c.get-line.result in
    sym (back_later c.min-most.result c.loop-back.back c.args.block.line c.args.row number ls l c.loop-back-test.true at inside c.get-line.ensures c.if-line-row.false)
    ∙ c.loop-back.invariant
