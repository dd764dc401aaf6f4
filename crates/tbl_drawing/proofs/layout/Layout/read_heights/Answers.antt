use Rattle.std.proofs.Common.{◌≡◌, ℕ, length, sym, ap, ◌∙◌, arith}
use Rattle.tbl_columns.proofs.Turns.{one_more}
use Rattle.tbl_drawing.specs.Heights.{height_read, without_talls}
use Rattle.tbl_drawing.specs.declared.layout.Layout.{Layout}
use Rattle.tbl_table.specs.Lists.{in_turn}
use Rattle.tbl_drawing.proofs.layout.Layout.read_heights.Goals as goal

pub loop-number-init : goal.loop-number-init
loop-number-init c = record { value = c.forget_talls.ensures.value; room = c.forget_talls.ensures.room }

pub loop-number-preserved : goal.loop-number-preserved
loop-number-preserved c =
    let n = c.loop-number.number in
    record {
      value = c.read_height.ensures.value ∙ ap (height_read n) c.loop-number.invariant.value ∙ sym (one_more n height_read (without_talls c.args.self.now));
      room = c.read_height.ensures.room ∙ c.loop-number.invariant.room;
    }

pub returns-clause-value : goal.returns-clause-value
returns-clause-value c =
    let l = c.args.self.now in
    let len : c.len-number-end.result ≡ length l.grid.placed.items =
    c.len-number-end.ensures.value ∙ ap (λ (x : Layout). length x.grid.placed.items) c.forget_talls.ensures.value in
    let all : c.loop-number.number ≡ length l.grid.placed.items = omega (arith, len) in
    c.loop-number.invariant.value ∙ ap (λ (n : ℕ). in_turn n height_read (without_talls l)) all

pub returns-clause-room : goal.returns-clause-room
returns-clause-room c = c.loop-number.invariant.room
