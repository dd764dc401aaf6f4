use Rattle.std.proofs.Common.{◌≡◌, ◌+◌, ◌-◌, replicate, ap, sym, ◌∙◌, arith}
use Rattle.std.proofs.lemmas.Result.{err_from_is_err_and}
use Rattle.nr_fill.specs.Piece.{with_title_cell}
use Rattle.nr_fill.specs.Line.{Lined}
use Rattle.nr_fill.proofs.Measures.{within_from_afforded}
use Rattle.nr_formatter.specs.Titles.{with_title_cells}
use Rattle.nr_formatter.proofs.TitleCells.{titled_copy, refused_copy}
use Rattle.nr_formatter.proofs.titles.put_copies.Goals as goal

pub returns-in_err-put_title-clause-result : goal.returns-in_err-put_title-clause-result
returns-in_err-put_title-clause-result c = λ fits.
    let h = c.loop-copy.invariant in
    let all = refused_copy c.args.cell c.args.n c.loop-copy._copy c.loop-copy.line c.args.line.now c.loop-copy-test.true h.rest h.limit c.in_err-put_title.ensures.result in
    (err_from_is_err_and c.from_residual.result c.from_residual.ensures.1).1 ∙ all

pub loop-copy-preserved : goal.loop-copy-preserved
loop-copy-preserved c =
    let h = c.loop-copy.invariant in
    let i = c.loop-copy._copy in
    let n = c.args.n in
    let x = c.args.cell in
    let v = c.loop-copy.line in
    let new : c.put_title.new.self ≡ record v { collected = with_title_cell x v.collected } = c.in_ok-put_title.ensures.ok in
    let one : n - i - 1 ≡ n - (i + 1) = omega arith in
    record {
      rest = ap (λ (w : Lined). with_title_cells (replicate (n - (i + 1)) x) w.collected) new ∙ ap (λ k. with_title_cells (replicate k x) (with_title_cell x v.collected)) (sym one)
          ∙ sym (titled_copy x (n - i) v.collected (let below = c.loop-copy-test.true in omega arith)) ∙ h.rest;
      limit = ap (λ (w : Lined). w.limit) new ∙ h.limit;
      within = λ fits. let w = within_from_afforded (record v { collected = with_title_cell x v.collected }) c.in_ok-put_title.ensures.result in rw new w;
    }
