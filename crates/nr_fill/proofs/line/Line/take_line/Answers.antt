use Rattle.std.proofs.Common.{arith}
use Rattle.std.proofs.lemmas.List.Sums.{sum_by-take-le}
use Rattle.nr_fill.specs.Cutting.{piece_width}
use Rattle.nr_fill.proofs.Lines.{widths_small}
use Rattle.nr_fill.proofs.line.Line.take_line.Goals as goal

pub longest_prefix-n-requires-clause-small : goal.longest_prefix-n-requires-clause-small
longest_prefix-n-requires-clause-small g c =
    let small = widths_small c.self.invariant in
    let part = sum_by-take-le piece_width c.self.inside.row.pieces c.self.inside.pieces in
    omega (arith, c.self.invariant.wide_is)
