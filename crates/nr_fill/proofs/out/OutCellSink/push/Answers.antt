use Rattle.std.specs.Prelude.{◌≤◌}
use Rattle.std.proofs.Common.{◌≡◌, ◌+◌, ◌-◌, ◌^◌, ◌++◌, ◌∷◌, [], List, min, length, take, ap, ap₂, subst, sym, ◌∙◌}
use Rattle.std.proofs.lemmas.List.{take-replicate}
use Rattle.std.proofs.Math.Nat.{min-le_left}
use Rattle.nr_vectors.specs.Cell.{trimmed}
use Rattle.nr_vectors.specs.declared.cell.Cell.{Cell}
use Rattle.nr_fill.specs.CellRow.{Row, row_of}
use Rattle.nr_fill.specs.Extents.{counted, written_after}
use Rattle.nr_fill.proofs.Trimming.{same_row, row_extended}
use Rattle.nr_fill.proofs.out.OutCellSink.push.Goals as goal

pub returns : goal.returns
returns c = (
  c.extend_copies.ensures.room ∙ ap (λ (r : Row). r.capacity) c.self.view_is,
  λ cells h.
      let e = c.self.view_is ∙ h in
      let room = c.args.self.now.capacity in
      let more : List Cell = c.args.cell ∷ [] in
      let n = c.min-kept.result in
      let kept_is : c.self.inside.cells.items ≡ take room cells = ap (λ (r : Row). r.kept) e in
      let room_is : c.extend_copies.new.self.capacity ≡ room = c.extend_copies.ensures.room ∙ ap (λ (r : Row). r.capacity) e in
      let n_is : n ≡ min 1 (room - length (take room cells)) = c.min-kept.ensures
      ∙ ap₂ (λ a b. min 1 (a - b)) (c.capacity.ensures.value ∙ ap (λ (r : Row). r.capacity) e) (c.len.ensures.value ∙ ap length kept_is) in
      let few : n ≤ 1 = subst (λ k. k ≤ 1) (sym n_is) (min-le_left 1 (room - length (take room cells))) in
      let count_is = c.saturating_add-self-inside.ensures ∙ ap (λ k. min (k + 1) (2 ^ 64 - 1)) (ap (λ (r : Row). r.count) e) in
      let afterwards = c.written_after-self-inside.ensures
      ∙ ap₂ (λ a b. written_after a b c.written_len.result) (ap (λ (r : Row). r.written) e) (ap (λ (r : Row). r.count) e)
      ∙ ap (written_after (counted (length (trimmed cells))) (counted (length cells))) c.written_len.ensures.value in
      same_row (c.extend_copies.ensures.items ∙ ap (λ k. c.self.inside.cells.items ++ k) (sym (take-replicate n 1 c.args.cell few)) ∙ ap (λ k. k ++ take n more) kept_is) count_is afterwards room_is
      ∙ row_extended room cells more n n_is ∙ ap (λ r. row_of r (cells ++ more)) (sym room_is),
)
