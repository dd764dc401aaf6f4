use Rattle.std.proofs.Common.{◌≡◌, ◌<◌, length, ap, arith}
use Rattle.std.proofs.lemmas.List.{at_drop_more}
use Rattle.tbl_blocks.specs.declared.parts.Line.{Line}
use Rattle.tbl_columns.specs.Texts.{no_line, widest_line}
use Rattle.tbl_columns.proofs.Known.{get_is}
use Rattle.tbl_columns.proofs.grid.Grid.widest_line.Goals as goal

pub loop-number-preserved : goal.loop-number-preserved
loop-number-preserved c =
    let ls = c.args.self.now.blocks.lines.items in
    let n = c.loop-number.number in
    let inside : n < length ls = omega (arith, c.loop-number-test.true, c.len-number-end.ensures.value) in
    let at = get_is ls n c.get-line.result no_line inside c.get-line.ensures in
    let next = at_drop_more widest_line ls n no_line inside in
    let cells = ap (λ (l : Line). l.cells) at in
    let lack = ap (λ (l : Line). l.lack) at in
    omega (arith, next, cells, lack, c.saturating_add.ensures, c.max-most.ensures, c.loop-number.invariant)
