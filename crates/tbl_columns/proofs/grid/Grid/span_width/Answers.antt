use Rattle.std.proofs.Common.{◌≡◌, ℕ, ◌-◌, ap, arith, ◌∙◌}
use Rattle.tbl_columns.specs.Cells.{columns_over}
use Rattle.tbl_columns.specs.Columns.{together}
use Rattle.tbl_columns.proofs.grid.Grid.span_width.Goals as goal

pub returns : goal.returns
returns c =
    let all : c.loop-number.number - c.args.first ≡ columns_over c.args.first c.args.last = omega arith in
    c.loop-number.invariant.value ∙ ap (λ (n : ℕ). together n c.args.self.now c.args.first c.args.last) all
