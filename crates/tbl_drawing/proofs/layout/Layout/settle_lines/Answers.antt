use Rattle.std.proofs.Common.{◌≡◌, ℕ, length, sym, ap, ◌∙◌, arith}
use Rattle.tbl_columns.proofs.Turns.{one_more}
use Rattle.tbl_drawing.specs.Heights.{line_settled, without_begins}
use Rattle.tbl_drawing.specs.declared.layout.Layout.{Layout}
use Rattle.tbl_table.specs.Lists.{in_turn}
use Rattle.tbl_drawing.proofs.layout.Layout.settle_lines.Goals as goal

pub loop-number-init : goal.loop-number-init
loop-number-init c = record { value = c.forget_begins.ensures.value; room = c.forget_begins.ensures.room }

pub loop-number-preserved : goal.loop-number-preserved
loop-number-preserved c =
    let n = c.loop-number.number in
    record {
      value = c.settle_line.ensures.value ∙ ap (line_settled n) c.loop-number.invariant.value ∙ sym (one_more n line_settled (without_begins c.args.self.now));
      room = c.settle_line.ensures.room ∙ c.loop-number.invariant.room;
    }

pub returns-clause-value : goal.returns-clause-value
returns-clause-value c =
    let l = c.args.self.now in
    let len : c.len-number-end.result ≡ length l.grid.cells.items =
    c.len-number-end.ensures.value ∙ ap (λ (x : Layout). length x.grid.cells.items) c.forget_begins.ensures.value in
    let all : c.loop-number.number ≡ length l.grid.cells.items = omega (arith, len) in
    c.loop-number.invariant.value ∙ ap (λ (n : ℕ). in_turn n line_settled (without_begins l)) all

pub returns-clause-room : goal.returns-clause-room
returns-clause-room c = c.loop-number.invariant.room
