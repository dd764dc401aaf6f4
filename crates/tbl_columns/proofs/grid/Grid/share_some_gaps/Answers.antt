use Rattle.std.proofs.Common.{ℕ, ◌-◌, ◌==◌, ap, ◌∙◌}
use Rattle.tbl_columns.proofs.Gaps.{shared_is}
use Rattle.tbl_columns.proofs.grid.Grid.share_some_gaps.Goals as goal

pub returns-then-not-none-clause-value : goal.returns-then-not-none-clause-value
returns-then-not-none-clause-value c =
    shared_is c.args.self.now c.share_all_gaps.new.self c.share_edges.new.self c.share_of_gaps-share.result c.saturating_sub-gaps.result
    (c.all_parts-alone.result == 0) c.has_no_rest-none.result c.has_no_rest-none.ensures c.if-not-none.true c.share_of_gaps-share.ensures
    (c.saturating_sub-gaps.ensures ∙ ap (λ (n : ℕ). n - 1) c.len.ensures.value) (ap (λ (n : ℕ). n == 0) c.all_parts-alone.ensures)
    c.share_all_gaps.ensures.value c.share_edges.ensures.value
