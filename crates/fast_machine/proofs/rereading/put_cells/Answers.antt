use Rattle.std.proofs.Common.{◌≡◌, ◌+◌, ◌++◌, ◌∷◌, [], take, ap, ◌∙◌, subst, sym, arith}
use Rattle.std.proofs.lemmas.List.{take_more}
use Rattle.nr_fill.specs.CellRow.{AddsToRow, AddsToRow-both}
use Rattle.nr_store.specs.declared.element.Element.TheVariants as elements
use Rattle.fast_machine.specs.Rereading.{AreCells, cells_of}
use Rattle.fast_machine.proofs.RereadCells.{are-push, cells-push}
use Rattle.fast_machine.proofs.rereading.put_cells.Goals as goal

pub loop-element-preserved : goal.loop-element-preserved
loop-element-preserved c =
    let xs = c.args.elements.now in
    let i = c.loop-element.element-index in
    let x = c.in-Cell.cell in
    let now = c.loop-element.invariant in
    let more : take (i + 1) xs ≡ take i xs ++ elements.Cell x ∷ [] = take_more xs i c.element-item.result c.loop-element-test.true ∙ ap (λ y. take i xs ++ y ∷ []) (sym c.element-item.is ∙ c.in-Cell.is) in
    let added = AddsToRow-both c.args.row.now c.loop-element.row c.push.new.self (cells_of (take i xs)) (x ∷ []) now.adds c.push.ensures in
    record {
      count = omega (arith, now.count);
      cells = subst AreCells (sym more) (are-push (take i xs) x now.cells);
      adds = subst (λ ys. AddsToRow c.args.row.now ys c.push.new.self) (sym (ap cells_of more ∙ cells-push (take i xs) x)) added;
    }
