use Rattle.std.proofs.Common.{◌≡◌, ◌+◌, ◌-◌, ◌^◌, ◌++◌, min, length, take, replicate, ap, ap₂, sym, ◌∙◌}
use Rattle.nr_vectors.specs.Cell.{blank}
use Rattle.nr_vectors.specs.declared.cell.Cell.{Cell}
use Rattle.nr_fill.specs.CellRow.{Row, row_of}
use Rattle.nr_fill.proofs.Trimming.{same_row, row_blanked}
use Rattle.nr_fill.proofs.out.OutCellSink.blanks.Goals as goal

pub returns : goal.returns
returns c = (
  c.extend_copies.ensures.room ∙ ap (λ (r : Row). r.capacity) c.self.view_is,
  λ cells h.
      let e = c.self.view_is ∙ h in
      let room = c.args.self.now.capacity in
      let n = c.args.n in
      let m = c.min-kept.result in
      let kept_is : c.self.inside.cells.items ≡ take room cells = ap (λ (r : Row). r.kept) e in
      let room_is : c.extend_copies.new.self.capacity ≡ room = c.extend_copies.ensures.room ∙ ap (λ (r : Row). r.capacity) e in
      let m_is : m ≡ min n (room - length (take room cells)) = c.min-kept.ensures
      ∙ ap₂ (λ a b. min n (a - b)) (c.capacity.ensures.value ∙ ap (λ (r : Row). r.capacity) e) (c.len.ensures.value ∙ ap length kept_is) in
      let count_is = c.saturating_add-self-inside.ensures ∙ ap (λ k. min (k + n) (2 ^ 64 - 1)) (ap (λ (r : Row). r.count) e) in
      same_row (c.extend_copies.ensures.items ∙ ap (λ (b : Cell). c.self.inside.cells.items ++ replicate m b) c.blank.ensures ∙ ap (λ k. k ++ replicate m blank) kept_is) count_is (ap (λ (r : Row). r.written) e) room_is
      ∙ row_blanked room cells n m m_is ∙ ap (λ r. row_of r (cells ++ replicate n blank)) (sym room_is),
)
