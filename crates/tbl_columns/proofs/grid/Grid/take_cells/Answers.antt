use Rattle.std.proofs.Common.{◌≡◌, ℕ, ◌+◌, ◌-◌, None, Some, get_or, sym, ap, ◌∙◌}
use Rattle.tbl_columns.specs.Narrow.{cells_taken, least, widest}
use Rattle.tbl_columns.proofs.Taken.{none_taken, one_taken, widest_same}
use Rattle.tbl_columns.proofs.grid.Grid.take_cells.Goals as goal

pub returns-in_default-clause-value : goal.returns-in_default-clause-value
returns-in_default-clause-value c =
    let s = c.args.self.now in
    let u = c.loop.self in
    let none : widest u (least s) ≡ None =
    sym (widest_same u (λ (k : ℕ). get_or c.leasts-leasts.result k 0) (least s) c.leasts-leasts.ensures) ∙ sym c.widest.ensures ∙ c.in_default.is in
    sym (none_taken (c.args.count - c.loop.counter) (least s) u none) ∙ c.loop.invariant.value

pub loop-preserved : goal.loop-preserved
loop-preserved c =
    let s = c.args.self.now in
    let u = c.loop.self in
    let found : widest u (least s) ≡ Some c.in-Some.number =
    sym (widest_same u (λ (k : ℕ). get_or c.leasts-leasts.result k 0) (least s) c.leasts-leasts.ensures) ∙ sym c.widest.ensures ∙ c.in-Some.is in
    record {
      value = ap (cells_taken (c.args.count - (c.loop.counter + 1)) (least s)) c.take_cell.ensures.value
          ∙ sym (one_taken c.args.count c.loop.counter c.in-Some.number (least s) u c.loop-test.true found) ∙ c.loop.invariant.value;
      room = c.take_cell.ensures.room ∙ c.loop.invariant.room;
    }
