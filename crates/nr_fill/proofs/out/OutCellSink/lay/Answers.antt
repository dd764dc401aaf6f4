use Rattle.std.proofs.Common.{◌≡◌, ◌+◌, ◌-◌, ◌≤◌, ◌++◌, length, take, drop, ap, sym, ◌∙◌, subst, refl, arith}
use Rattle.std.proofs.lemmas.Grind.{common_steps}
use Rattle.std.proofs.Math.Seq.{drop-append_seam}
use Rattle.std.proofs.lemmas.List.{take_rest}
use Rattle.nr_fill.specs.Extents.{IsExtent, written_after}
use Rattle.nr_fill.specs.CellRow.{Row, row_of}
use Rattle.nr_fill.specs.Slots.{pieces_of}
use Rattle.nr_fill.specs.Spreading.{cells_in_line}
use Rattle.nr_fill.proofs.Trimming.{row_laid, row_whole, same_row}
use Rattle.nr_fill.proofs.out.OutCellSink.lay.Goals as goal

pub returns : goal.returns
returns c =
    let line = cells_in_line c.args.extra (pieces_of c.args.slots.now c.args.cells.now) in
    let items = c.self.inside.cells.items in
    let start = c.len-start.result in
    let room = c.args.self.now.capacity in
    let r = c.as_slice.result.now in
    let n = c.of-extent.result.count in
    let w = c.of-extent.result.written in
    let r_is : r ≡ items ++ line = c.as_slice.ensures.value ∙ c.lay_line.ensures.items in
    let laid_is : take (length r - start) (drop start r) ≡ line =
    take_rest r start ∙ ap (drop start) r_is ∙ ap (λ k. drop k (items ++ line)) c.len-start.ensures.value ∙ drop-append_seam items line in
    let extent : IsExtent line n w = subst (λ zs. IsExtent zs n w) laid_is c.of-extent.ensures in
    record {
      set = (
        c.lay_line.ensures.room ∙ ap (λ (v : Row). v.capacity) c.self.view_is,
        λ cells h.
            let e = c.self.view_is ∙ h in
            let room_is : c.lay_line.new.row.capacity ≡ room = c.lay_line.ensures.room ∙ ap (λ (v : Row). v.capacity) e in
            let own : c.self.inside.cells.capacity ≡ room = ap (λ (v : Row). v.capacity) e in
            same_row c.lay_line.ensures.items (ap (λ k. k + n) c.len-start.ensures.value)
            (c.written_after-self-inside.ensures ∙ ap (λ k. written_after c.self.inside.written k w) c.len-start.ensures.value) room_is
            ∙ row_laid cells line n w (ap (λ (v : Row). v.kept) e) (ap (λ (v : Row). v.count) e) (ap (λ (v : Row). v.written) e) (omega (arith, c.self.invariant)) (omega (arith, c.if-self-start.false, c.len-start.ensures.value))
            (omega (arith, c.requires.most, c.if-most-capacity.false, c.capacity.ensures.value, c.len-start.ensures.value)) extent.0 extent.1
            ∙ ap (λ k. row_of k (cells ++ line)) (sym room_is),
      );
      extent = extent;
      none = λ is. absurd (let f = is in cc);
      laid = λ before h.
          let e = c.self.view_is ∙ h in
          let none_gone : c.self.inside.count ≡ length items = omega (arith, c.if-self-start.false, c.len-start.ensures.value) in
          let fits : length items + c.args.most ≤ c.self.inside.cells.capacity = omega (arith, c.if-most-capacity.false, c.capacity.ensures.value, c.capacity.ensures.holds, c.len-start.ensures.value, c.len-start.ensures.within) in
          let own : c.self.inside.cells.capacity ≡ room = ap (λ (v : Row). v.capacity) e in
          let whole = row_whole before (ap (λ (v : Row). v.kept) e) (ap (λ (v : Row). v.count) e) (omega (arith, c.self.invariant)) none_gone in
          (λ some. omega arith, λ fits. refl);
    }

pub returns-then-self-start-clause-laid : goal.returns-then-self-start-clause-laid
returns-then-self-start-clause-laid c = grind (arith, common_steps)

pub slice_bounds-laid-count : goal.slice_bounds-laid-count
slice_bounds-laid-count c = grind (arith, common_steps)

pub slice_bounds-laid-start : goal.slice_bounds-laid-start
slice_bounds-laid-start c = grind (arith, common_steps)
