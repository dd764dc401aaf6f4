use Rattle.std.proofs.Common.{◌≡◌, ◌++◌, List, ap, ◌∙◌, subst}
use Rattle.nr_vectors.specs.declared.cell.Cell.{Cell}
use Rattle.nr_fill.specs.Extents.{IsExtent}
use Rattle.nr_fill.specs.Slots.{pieces_of}
use Rattle.nr_fill.specs.Spreading.{cells_in_line}
use Rattle.nr_formatter.specs.DiversionRow.{AddsToDiversion}
use Rattle.nr_formatter.proofs.diversion_row.DiversionRowCellSink.lay.Goals as goal

pub returns : goal.returns
returns c =
    let line = cells_in_line c.args.extra (pieces_of c.args.slots.now c.args.cells.now) in
    let old = c.args.self.now in
    let new = c.extend.new.self in
    let laid_is : c.as_slice-laid.result.now ≡ line = c.as_slice-laid.ensures.value ∙ c.lay_line.ensures.items ∙ ap (λ (xs : List Cell). xs ++ line) c.over-row.ensures.empty in
    record {
      set = (c.extend.ensures.0, c.extend.ensures.1, subst (λ (zs : List Cell). AddsToDiversion old.store.now old.blanks old.refused zs new.store.now new.blanks new.refused) laid_is c.extend.ensures.2);
      extent = subst (λ (zs : List Cell). IsExtent zs c.of-extent.result.count c.of-extent.result.written) laid_is c.of-extent.ensures;
      none = λ e. absurd (let wrong : ⊥ = cc in wrong);
    }
