use Rattle.std.proofs.Common.{◌≡◌, ℕ, ◌+◌, ◌<◌, List, length, get_or, drop, sym, ap, ◌∙◌, arith}
use Rattle.std.proofs.lemmas.List.{at_drop_more}
use Rattle.tbl_columns.specs.declared.grid.Cell.{Cell}
use Rattle.tbl_columns.specs.Held.{no_cell}
use Rattle.tbl_columns.specs.Narrow.{least_by_fields, with_least}
use Rattle.tbl_columns.proofs.grid.Grid.leasts.Goals as goal

pub loop-number-preserved : goal.loop-number-preserved
loop-number-preserved c =
    let g = c.args.self.now in
    let fs = g.cells.items in
    let n = c.loop-number.number in
    let old = c.loop-number.leasts in
    let inside : n < length fs = omega (arith, c.loop-number-test.true, c.len-number-end.ensures.value) in
    record {
      len = c.count_least.ensures.len;
      leasts = λ k h.
          ap (λ (l : ℕ). least_by_fields g k l (drop (n + 1) fs)) (c.count_least.ensures.leasts k h)
          ∙ ap (λ (f : Cell). least_by_fields g k (with_least g k f (get_or old k 0)) (drop (n + 1) fs)) c.cell_of.ensures
          ∙ sym (at_drop_more (λ (xs : List Cell). least_by_fields g k (get_or old k 0) xs) fs n no_cell inside)
          ∙ c.loop-number.invariant.leasts k h;
    }
