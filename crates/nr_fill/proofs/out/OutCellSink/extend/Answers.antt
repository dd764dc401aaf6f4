use Rattle.std.proofs.Common.{◌≡◌, ◌+◌, ◌-◌, ◌^◌, ◌++◌, min, length, take, ap, ap₂, sym, ◌∙◌}
use Rattle.nr_vectors.specs.Cell.{trimmed}
use Rattle.nr_fill.specs.CellRow.{Row, row_of}
use Rattle.nr_fill.specs.Extents.{counted, written_after}
use Rattle.nr_fill.proofs.Trimming.{same_row, row_extended}
use Rattle.nr_fill.proofs.out.OutCellSink.extend.Goals as goal

pub returns : goal.returns
returns c = (
  c.extend.ensures.room ∙ ap (λ (r : Row). r.capacity) c.self.view_is,
  λ cells h.
      let e = c.self.view_is ∙ h in
      let room = c.args.self.now.capacity in
      let more = c.args.cells.now in
      let n = c.min-n.result in
      let kept_is : c.self.inside.cells.items ≡ take room cells = ap (λ (r : Row). r.kept) e in
      let room_is : c.extend.new.self.capacity ≡ room = c.extend.ensures.room ∙ ap (λ (r : Row). r.capacity) e in
      let n_is : n ≡ min (length more) (room - length (take room cells)) = c.min-n.ensures
      ∙ ap₂ (λ a b. min (length more) (a - b)) (c.capacity.ensures.value ∙ ap (λ (r : Row). r.capacity) e) (c.len.ensures.value ∙ ap length kept_is) in
      let count_is = c.saturating_add-self-inside.ensures ∙ ap (λ k. min (k + length more) (2 ^ 64 - 1)) (ap (λ (r : Row). r.count) e) in
      let afterwards = c.written_after-self-inside.ensures
      ∙ ap₂ (λ a b. written_after a b c.written_len.result) (ap (λ (r : Row). r.written) e) (ap (λ (r : Row). r.count) e)
      ∙ ap (written_after (counted (length (trimmed cells))) (counted (length cells))) c.written_len.ensures.value in
      same_row (c.extend.ensures.items ∙ ap (λ k. k ++ take n more) kept_is) count_is afterwards room_is
      ∙ row_extended room cells more n n_is ∙ ap (λ r. row_of r (cells ++ more)) (sym room_is),
)
