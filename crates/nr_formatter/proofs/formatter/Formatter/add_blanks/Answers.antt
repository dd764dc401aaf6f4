use Prim.Native.Char.{code}
use Rattle.std.proofs.Common.{replicate, sym, subst, ap, arith}
use Rattle.nr_fill.specs.Line.{Lined}
use Rattle.nr_fill.specs.Piece.{line_cells}
use Rattle.nr_formatter.specs.Many.CellBytes.{PutsCellBytes}
use Rattle.nr_formatter.proofs.CellBytesAtOnce.{puts_blanks}
use Rattle.nr_formatter.proofs.formatter.Formatter.add_blanks.Goals as goal

pub returns-clause-puts : goal.returns-clause-puts
returns-clause-puts c =
    let f = c.args.self.now in
    let n = c.put_blanks.result in
    let put = rw c.margins-margins.ensures at c.put_blanks.ensures.cells in
    let cells = ap (λ (v : Lined). line_cells v.collected) put in
    let limit = ap (λ (v : Lined). v.limit) put in
    subst (λ xs. PutsCellBytes xs f (record f { line = c.put_blanks.new.self })) (sym c.put_blanks.ensures.blanks)
    (subst (λ (v : Lined). PutsCellBytes (replicate n (code " ")) f (record f { line = v })) (sym put)
    (puts_blanks n f c.requires.line c.requires.goes (λ some. omega (arith, c.put_blanks.ensures.within some))))
