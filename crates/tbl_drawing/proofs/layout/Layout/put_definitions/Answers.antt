use Rattle.std.proofs.Common.{◌≡◌, ℕ, ◌+◌, ◌-◌, ◌∷◌, [], sym, ap, ◌∙◌, arith}
use Rattle.tbl_columns.specs.declared.grid.Cell.{Cell}
use Rattle.tbl_columns.specs.declared.grid.Placed.{Placed}
use Rattle.tbl_columns.specs.Held.{block_of, cell_of, placed}
use Rattle.tbl_drawing.specs.Lines.{definitions_at, definitions_of}
use Rattle.tbl_drawing.specs.Pens.{Bytes}
use Rattle.tbl_drawing.specs.Sequences.{joined}
use Rattle.tbl_table.specs.Held.{text_of}
use Rattle.tbl_drawing.proofs.Joined.{bytes_as, bytes_more}
use Rattle.tbl_drawing.proofs.Tapes.{draws_no_bytes, draws_same}
use Rattle.tbl_drawing.proofs.layout.Layout.put_definitions.Goals as goal

pub loop-number-init : goal.loop-number-init
loop-number-init g c =
    let p = c.placed-row.result in
    let none : p.cells - p.cells ≡ 0 = omega arith in
    record {
      draws = bytes_as (draws_no_bytes _) (ap (λ (m : ℕ). joined m (definitions_at c.args.self.now p.cells)) none);
      within = omega arith;
    }

pub loop-number-preserved : goal.loop-number-preserved
loop-number-preserved g c =
    let l = c.args.self.now in
    let n = c.loop-number.number in
    let first = c.placed-row.result.cells in
    let next : n + 1 - first ≡ n - first + 1 = omega arith in
    let here : first + (n - first) ≡ n = omega arith in
    record {
      draws = bytes_as
          (bytes_more (n - first) (definitions_at l first) c.loop-number.invariant.draws
          (bytes_as c.put_definitions_of.ensures
          (ap (λ (m : ℕ). definitions_of (block_of l.grid (cell_of l.grid m)) (text_of l.grid.table (cell_of l.grid m).field.span)) here
          ∙ ap (λ (f : Cell). definitions_of (block_of l.grid f) (text_of l.grid.table f.field.span)) (sym c.cell_of.ensures))))
          (ap (λ (m : ℕ). joined m (definitions_at l first)) next);
      within = omega arith;
    }

pub returns : goal.returns
returns g c =
    let l = c.args.self.now in
    let p = c.placed-row.result in
    let all : p.cells_end - p.cells ≡ c.loop-number.number - p.cells = omega arith in
    bytes_as c.loop-number.invariant.draws
    (ap (λ (q : Placed). joined (q.cells_end - q.cells) (definitions_at l q.cells)) (sym c.placed-row.ensures)
    ∙ ap (λ (m : ℕ). joined m (definitions_at l p.cells)) all)
