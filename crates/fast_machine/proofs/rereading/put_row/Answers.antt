use Rattle.std.proofs.Common.{◌≡◌, ◌≤◌, ◌*◌, ◌++◌, List, length, take, drop, true, refl, sym, ◌∙◌, ap, subst, arith, length-take-le, length-append}
use Rattle.nr_store.specs.Laws.{left_times-run}
use Rattle.nr_store.specs.Windows.{rest_of}
use Rattle.nr_store.specs.declared.element.Element.{Element}
use Rattle.nr_formatter.specs.Many.Runs.{is_rereading_line}
use Rattle.nr_machine.specs.Holding.{Shape, shape}
use Rattle.fast_machine.specs.Running.{Makes}
use Rattle.fast_machine.proofs.RereadCells.{prefix-afterwards, makes_cells, reread_shape}
use Rattle.fast_machine.proofs.rereading.put_row.Goals as goal

pub returns-clause-puts : goal.returns-clause-puts
returns-clause-puts c = record {
  makes = λ supply.
      let n = c.put_cells-count.result in
      let m = c.min.result in
      let bs : List Element = c.in-Text.elements.now in
      let e : Shape = shape c.args.engine.now in
      let ys = take n (take m bs) in
      let rest = rest_of e.formatter.store.levels in
      let line : is_rereading_line e.formatter ≡ true = sym c.is_rereading.ensures ∙ c.if-not-is_rereading.false in
      let count : length ys ≡ n = length-take-le n (take m bs) c.put_cells-count.ensures.prefix in
      let whole : ys ++ (drop n (take m bs) ++ drop m bs) ≡ rest = prefix-afterwards n m bs ∙ c.in-Text.ensures in
      let cells = makes_cells ys (drop n (take m bs) ++ drop m bs) c.put_cells-count.new.row e supply line c.put_cells-count.ensures.cells
      (λ row is. sym (c.is_empty.ensures row is) ∙ c.if-is_empty.false) c.put_cells-count.ensures.adds whole in
      let few : n ≤ length rest = (let all = ap length whole in omega (arith, count, all, length-append ys (drop n (take m bs) ++ drop m bs))) in
      let left = c.skip.ensures ∙ left_times-run n e.formatter.store few in
      rw left (subst (λ k. Makes (2 * k) e (reread_shape k c.put_cells-count.new.row e) supply supply) count cells);
  place = refl;
}
