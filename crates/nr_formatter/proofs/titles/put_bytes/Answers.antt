use Rattle.std.proofs.Common.{◌∙◌}
use Rattle.std.proofs.lemmas.Result.{err_from_is_err_and}
use Rattle.nr_formatter.proofs.TitleCells.{refused_byte}
use Rattle.nr_formatter.proofs.titles.put_bytes.Goals as goal

pub returns-in_err-put_title-clause-result : goal.returns-in_err-put_title-clause-result
returns-in_err-put_title-clause-result c = λ fits.
    let h = c.loop-byte.invariant in
    let refused = (rw c.cell.ensures at c.in_err-put_title.ensures.result) in
    let all = refused_byte c.args.fonts.now c.args.bytes.now c.loop-byte.byte-index c.loop-byte.line c.args.line.now c.loop-byte-test.true h.rest h.limit refused in
    (err_from_is_err_and c.from_residual.result c.from_residual.ensures.1).1 ∙ all
