use Rattle.std.proofs.Common.{ap, arith}
use Rattle.nr_fill.specs.Line.{Lined}
use Rattle.nr_fill.specs.Piece.{text_cells}
use Rattle.nr_fill.proofs.Measures.{afforded_ok, text_cells-with_word, text_cells-ended, line_cells-add_cell}
use Rattle.nr_fill.specs.Piece.{add_cell}
use Rattle.nr_fill.proofs.line.Line.put.Goals as goal

pub push_cell-requires-clause-room : goal.push_cell-requires-clause-room
push_cell-requires-clause-room c =
    let first = text_cells-with_word c.args.margins c.args.self.now.collected in
    let second = text_cells-ended c.open_word.new.self.collected in
    let ended = ap (λ (v : Lined). text_cells v.collected) c.end_piece.ensures in
    let ended_limit = ap (λ (v : Lined). v.limit) c.end_piece.ensures in
    let opened = ap (λ (v : Lined). text_cells v.collected) c.open_word.ensures.opened in
    let limit = ap (λ (v : Lined). v.limit) c.open_word.ensures.opened in
    let own = ap (λ (v : Lined). v.limit) c.self.view_is in
    omega (arith, c.text_measure.ensures.value, c.text_measure.ensures.within)

pub returns-clause-result : goal.returns-clause-result
returns-clause-result c =
    let one = line_cells-add_cell c.args.margins c.args.afterwards c.args.cell c.args.self.now.collected in
    let own = ap (λ (v : Lined). v.limit) c.self.view_is in
    let v : Lined = record { collected = add_cell c.args.margins c.args.afterwards c.args.cell c.args.self.now.collected; limit = c.args.self.now.limit } in
    afforded_ok v (omega (arith, c.text_measure.ensures.value, c.text_measure.ensures.within))
