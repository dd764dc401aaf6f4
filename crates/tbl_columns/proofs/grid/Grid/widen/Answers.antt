use Rattle.std.proofs.Common.{◌≡◌, ℕ, ◌+◌, ◌-◌, ap, arith, sym, ◌∙◌}
use Rattle.tbl_columns.specs.declared.grid.Grid.{Grid}
use Rattle.tbl_columns.specs.Cells.{columns_over}
use Rattle.tbl_columns.specs.Columns.{Dealing, dealing, dealt_at, span_width}
use Rattle.tbl_table.specs.Lists.{in_turn}
use Rattle.tbl_columns.proofs.Pairs.{dealing_of}
use Rattle.tbl_columns.proofs.Turns.{one_further}
use Rattle.tbl_columns.proofs.grid.Grid.widen.Goals as goal

pub loop-number-preserved : goal.loop-number-preserved
loop-number-preserved c = record {
  value =
      dealing_of _ _ (dealt_at c.saturating_sub-whole.result c.columns_over-all.result c.args.last c.loop-number.number (dealing c.loop-number.self c.loop-number.rest))
      c.deal_to-rest.ensures.value c.deal_to-rest.ensures.rest
      ∙ ap (dealt_at c.saturating_sub-whole.result c.columns_over-all.result c.args.last c.loop-number.number) c.loop-number.invariant.value
      ∙ sym (one_further c.args.first c.loop-number.number (dealt_at c.saturating_sub-whole.result c.columns_over-all.result c.args.last) _ (omega arith));
  within = omega arith;
  room = c.deal_to-rest.ensures.room ∙ c.loop-number.invariant.room;
}

pub returns-clause-value : goal.returns-clause-value
returns-clause-value c =
    let turns : c.loop-number.number - c.args.first ≡ columns_over c.args.first c.args.last = omega arith in
    let whole : c.saturating_sub-whole.result ≡ c.args.width - span_width c.args.self.now c.args.first c.args.last =
    c.saturating_sub-whole.ensures ∙ ap (λ (w : ℕ). c.args.width - w) c.span_width.ensures in
    let made : ℕ → ℕ → ℕ → Grid = λ (w k n : ℕ). (in_turn n (λ (m : ℕ). dealt_at w k c.args.last (c.args.first + m)) (dealing c.args.self.now w)).grid in
    ap (λ (d : Dealing). d.grid) c.loop-number.invariant.value
    ∙ ap (made c.saturating_sub-whole.result c.columns_over-all.result) turns
    ∙ ap (λ (k : ℕ). made c.saturating_sub-whole.result k (columns_over c.args.first c.args.last)) c.columns_over-all.ensures
    ∙ ap (λ (w : ℕ). made w (columns_over c.args.first c.args.last) (columns_over c.args.first c.args.last)) whole
