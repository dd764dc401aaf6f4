use Rattle.std.proofs.Common.{◌+◌, ap, ap₂, sym, ◌∙◌}
use Rattle.nr_fill.specs.Line.{Lined}
use Rattle.nr_fill.specs.Piece.{line_cells}
use Rattle.nr_fill.proofs.Lines.{line_cells-collected_of}
use Rattle.nr_fill.proofs.line.Line.measure.Goals as goal

pub returns-clause-value : goal.returns-clause-value
returns-clause-value c =
    let s = c.self.inside in
    ap₂ (λ n m. s.pieces + n + m) c.read.ensures c.title_len.ensures ∙ sym (line_cells-collected_of s.barred s.sentence s.margins s.turn c.self.invariant) ∙ ap (λ (v : Lined). line_cells v.collected) c.self.view_is
