use Rattle.std.proofs.Common.{◌≡◌, false, take, get_or, sym, ◌∙◌, arith}
use Rattle.std.proofs.lemmas.Bool.{or_parts}
use Rattle.std.proofs.lemmas.List.{take_more, take_all}
use Rattle.std.proofs.lemmas.List.Elements.{All-push}
use Rattle.nr_vectors.specs.declared.cell.Cell.{Cell}
use Rattle.nr_vectors.specs.declared.cell.Look.TheVariants.{Plain}
use Rattle.nr_page.specs.Faces.{may_show}
use Rattle.nr_page.proofs.gathering.any_shown.Goals as goal

pub loop-cell-preserved : goal.loop-cell-preserved
loop-cell-preserved c = λ none.
    let zero : Cell = record { byte = 0; look = Plain } in
    let cells = c.args.cells.now in
    let i = c.loop-cell.cell-index in
    let both = or_parts c.loop-cell.any c.may_show-any.result none in
    rw (take_more cells i zero c.loop-cell-test.true)
    (All-push (λ (cell : Cell). may_show c.args.faces cell.look ≡ false) (take i cells) (get_or cells i zero) (c.loop-cell.invariant both.0) (sym c.may_show-any.ensures ∙ both.1))

pub returns : goal.returns
returns c = λ none. rw (take_all c.loop-cell.cell-index c.args.cells.now (omega (arith, c.loop-cell-test.false))) at (c.loop-cell.invariant none)
