use Rattle.std.proofs.Common.{◌+◌, ap, sym, ◌∙◌}
use Rattle.nr_fill.specs.Line.{Lined}
use Rattle.nr_fill.specs.Piece.{text_cells}
use Rattle.nr_fill.proofs.Lines.{text_cells-collected_of}
use Rattle.nr_fill.proofs.line.Line.text_measure.Goals as goal

pub returns-clause-value : goal.returns-clause-value
returns-clause-value c =
    let s = c.self.inside in
    ap (λ n. s.pieces + n) c.read.ensures ∙ sym (text_cells-collected_of s.barred s.sentence s.margins s.turn c.self.invariant) ∙ ap (λ (v : Lined). text_cells v.collected) c.self.view_is
