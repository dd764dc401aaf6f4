use Rattle.std.proofs.Common.{Some, ap, sym, ◌∙◌, arith}
use Rattle.std.proofs.lemmas.List.Sums.{sum_by-take-le}
use Rattle.nr_fill.specs.Cutting.{pieces_width, piece_width}
use Rattle.nr_fill.specs.Line.{Lined}
use Rattle.nr_fill.specs.Piece.{word_or_new, word_pieces}
use Rattle.nr_fill.specs.Tabs.{column}
use Rattle.nr_fill.proofs.Lines.{widths_small}
use Rattle.nr_fill.proofs.Planning.{column_is}
use Rattle.nr_fill.proofs.line.Line.column.Goals as goal

pub overflow_add-wide : goal.overflow_add-wide
overflow_add-wide c =
    let small = widths_small c.self.invariant in
    let part = sum_by-take-le piece_width c.self.inside.row.pieces c.self.inside.pieces in
    omega (arith, c.word_wide.ensures.small, c.self.invariant.wide_is)

pub overflow_sub-result-2 : goal.overflow_sub-result-2
overflow_sub-result-2 c =
    let s = c.self.inside in
    let word = c.word_wide.ensures.value ∙ ap (λ (u : Lined). pieces_width (word_pieces (Some (word_or_new u.collected.gap u.collected.word)))) (sym c.self.view_is) in
    let is = column_is s.barred s.sentence s.margins s.turn c.first_join.result c.from-2.result c.word_wide.result c.self.invariant (omega (arith, c.if-pieces-eq0.false, c.pieces.ensures))
    c.first_join.ensures (c.from-2.ensures ∙ c.width-2.ensures) word in
    is.0

pub returns-clause-value : goal.returns-clause-value
returns-clause-value c =
    let s = c.self.inside in
    let word = c.word_wide.ensures.value ∙ ap (λ (u : Lined). pieces_width (word_pieces (Some (word_or_new u.collected.gap u.collected.word)))) (sym c.self.view_is) in
    let is = column_is s.barred s.sentence s.margins s.turn c.first_join.result c.from-2.result c.word_wide.result c.self.invariant (omega (arith, c.if-pieces-eq0.false, c.pieces.ensures))
    c.first_join.ensures (c.from-2.ensures ∙ c.width-2.ensures) word in
    is.1 ∙ ap (λ (u : Lined). column u.collected) c.self.view_is

pub returns-clause-small : goal.returns-clause-small
returns-clause-small c =
    let small = widths_small c.self.invariant in
    let part = sum_by-take-le piece_width c.self.inside.row.pieces c.self.inside.pieces in
    omega (arith, c.word_wide.ensures.small, c.self.invariant.wide_is)
