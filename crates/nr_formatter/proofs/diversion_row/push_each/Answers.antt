use Rattle.std.proofs.Common.{List, take, sym, ◌∙◌, subst}
use Rattle.std.proofs.lemmas.List.{take_more, take_all}
use Rattle.nr_vectors.specs.declared.cell.Cell.{Cell}
use Rattle.nr_formatter.specs.DiversionRow.{AddsToDiversion, AddsToDiversion-both}
use Rattle.nr_formatter.proofs.diversion_row.push_each.Goals as goal

pub loop-cell-preserved : goal.loop-cell-preserved
loop-cell-preserved c =
    let old = c.args.row.now in
    let now = c.loop-cell.row in
    let new = c.push.new.self in
    let i = c.loop-cell.cell-index in
    let inv = c.loop-cell.invariant in
    record {
      same = c.push.ensures.0 ∙ inv.same;
      charge = c.push.ensures.1 ∙ inv.charge;
      adds = subst (λ (zs : List Cell). AddsToDiversion old.store.now old.blanks old.refused zs new.store.now new.blanks new.refused) (sym (take_more c.args.cells.now i _ c.loop-cell-test.true))
          (AddsToDiversion-both old.store.now old.blanks old.refused now.store.now now.blanks now.refused new.store.now new.blanks new.refused (take i c.args.cells.now) _ inv.adds c.push.ensures.2);
    }

pub returns : goal.returns
returns c =
    let old = c.args.row.now in
    let now = c.loop-cell.row in
    let inv = c.loop-cell.invariant in
    record {
      same_reference = inv.same;
      charge = inv.charge;
      adds = subst (λ (zs : List Cell). AddsToDiversion old.store.now old.blanks old.refused zs now.store.now now.blanks now.refused) (take_all c.loop-cell.cell-index c.args.cells.now c.loop-cell-test.false) inv.adds;
    }
