use Rattle.std.proofs.Common.{◌≡◌, ◌+◌, ◌-◌, Bool, ◌||◌, nat_lt, false, sym, ap, arith, ◌∙◌}
use Rattle.std.proofs.lemmas.Bool.Decides.{nat_tests}
use Rattle.tbl_columns.specs.Frames.{bars_of, some_bars}
use Rattle.tbl_columns.proofs.Nexts.{bars_next}
use Rattle.tbl_columns.proofs.grid.Grid.has_bars.Goals as goal

pub loop-column-preserved : goal.loop-column-preserved
loop-column-preserved c =
    let next = bars_next c.args.self.now c.args.row c.loop-column.column c.saturating_add-column-end.result c.loop-column-test.true in
    let none : nat_lt 0 (bars_of c.args.self.now c.args.row c.loop-column.column) ≡ false = grind (arith, nat_tests, c.bars_at.ensures) in
    let rest : Bool = some_bars (c.saturating_add-column-end.result - (c.loop-column.column + 1)) c.args.self.now c.args.row (c.loop-column.column + 1) in
    sym (ap (λ (b : Bool). b || rest) none) ∙ sym next ∙ c.loop-column.invariant
