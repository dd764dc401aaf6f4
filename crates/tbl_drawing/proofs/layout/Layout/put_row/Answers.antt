use Rattle.std.proofs.Common.{◌≡◌, ℕ, suc, ◌+◌, ◌-◌, ◌++◌, ap, ◌∙◌, arith}
use Rattle.tbl_drawing.specs.Drawing.{bars_on, more_lines, row_strokes, whole}
use Rattle.tbl_drawing.specs.Held.{lines_of, tall}
use Rattle.tbl_drawing.specs.declared.layout.Tall.{Tall}
use Rattle.tbl_drawing.proofs.Tapes.{draws_nothing, draws_same, draws_then}
use Rattle.tbl_drawing.proofs.layout.Layout.put_row.Goals as goal

pub loop-more-init : goal.loop-more-init
loop-more-init g c = record { draws = draws_nothing _; within = omega arith }

pub loop-more-preserved : goal.loop-more-preserved
loop-more-preserved g c =
    let l = c.args.self.now in
    let n = c.loop-more.more in
    let next : n + 1 - 1 ≡ suc (n - 1) = omega arith in
    let here : n - 1 + 1 ≡ n = omega arith in
    record {
      draws = draws_same (draws_then c.loop-more.invariant.draws c.put_bars_on.ensures)
          (ap (λ (m : ℕ). more_lines m l c.args.row c.args.line) next
          ∙ ap (λ (m : ℕ). more_lines (n - 1) l c.args.row c.args.line ++ bars_on l c.args.row c.args.line m) here);
      within = omega arith;
    }

pub returns : goal.returns
returns g c =
    let l = c.args.self.now in
    let n = c.loop-more.more in
    let all : lines_of (tall l c.args.row) ≡ c.lines-more-end.result = cc in
    let same : lines_of (tall l c.args.row) - 1 ≡ n - 1 = omega (arith, all) in
    draws_same (draws_then c.put_row_line.ensures c.loop-more.invariant.draws)
    (ap (λ (m : ℕ). whole (row_strokes l c.args.row c.args.line) ++ more_lines m l c.args.row c.args.line) same)
