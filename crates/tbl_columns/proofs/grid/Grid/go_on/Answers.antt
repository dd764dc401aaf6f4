use Rattle.std.proofs.Common.{◌≡◌, ℕ, ◌+◌, ◌-◌, ap, arith, sym, ◌∙◌}
use Rattle.tbl_columns.specs.Cells.{columns_over, gone_on_at}
use Rattle.tbl_table.specs.Lists.{in_turn}
use Rattle.tbl_columns.proofs.Turns.{one_further}
use Rattle.tbl_columns.proofs.grid.Grid.go_on.Goals as goal

pub loop-column-preserved : goal.loop-column-preserved
loop-column-preserved c = record {
  value =
      c.go_on_at.ensures.value ∙ ap (gone_on_at c.args.row c.loop-column.column) c.loop-column.invariant.value
      ∙ sym (one_further c.args.first c.loop-column.column (gone_on_at c.args.row) c.args.self.now (omega arith));
  within = omega arith;
  room = c.go_on_at.ensures.room ∙ c.loop-column.invariant.room;
}

pub returns-clause-value : goal.returns-clause-value
returns-clause-value c =
    let all : c.loop-column.column - c.args.first ≡ columns_over c.args.first c.args.last = omega arith in
    c.loop-column.invariant.value
    ∙ ap (λ (n : ℕ). in_turn n (λ (k : ℕ). gone_on_at c.args.row (c.args.first + k)) c.args.self.now) all
