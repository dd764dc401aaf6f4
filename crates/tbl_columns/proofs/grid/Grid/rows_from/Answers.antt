use Rattle.std.proofs.Common.{◌≡◌, ℕ, ◌-◌, ◌<◌, length, get_or, sym, ap, ◌∙◌, arith}
use Rattle.tbl_blocks.specs.declared.parts.Line.{Line}
use Rattle.tbl_columns.specs.Texts.{no_line}
use Rattle.tbl_columns.proofs.Known.{get_is}
use Rattle.tbl_columns.proofs.Lines.{rows_last}
use Rattle.tbl_columns.proofs.grid.Grid.rows_from.Goals as goal

pub returns-then-first-lines : goal.returns-then-first-lines
returns-then-first-lines c =
    let ls = c.args.self.now.blocks.lines.items in
    let len = c.len-lines.ensures.value in
    let some : c.args.first < length ls = omega (arith, len, c.if-first-lines.true) in
    let inside : c.len-lines.result - 1 < length ls = omega (arith, len, some) in
    let at = get_is ls (c.len-lines.result - 1) c.get.result no_line inside c.get.ensures in
    let last : get_or ls (length ls - 1) no_line ≡ c.get.result = ap (λ (n : ℕ). get_or ls (n - 1) no_line) (sym len) ∙ at in
    let row = ap (λ (l : Line). l.row) last in
    let rows = rows_last c.args.first ls some in
    omega (arith, rows, row, c.saturating_add.ensures)
