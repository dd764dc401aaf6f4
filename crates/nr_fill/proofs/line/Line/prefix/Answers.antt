use Rattle.std.proofs.Common.{◌≡◌, ◌-◌, length, take, drop, ap, sym, ◌∙◌, arith}
use Rattle.std.proofs.lemmas.List.{length-take-le}
use Rattle.std.proofs.lemmas.List.Sums.{sum_by-take-le}
use Rattle.nr_fill.specs.Line.{Lined}
use Rattle.nr_fill.specs.Cutting.{pieces_width, piece_width, hyphen_before}
use Rattle.nr_fill.specs.Piece.{cells_in}
use Rattle.nr_fill.specs.Setting.{left_over}
use Rattle.nr_fill.specs.Spreading.{gaps}
use Rattle.nr_fill.proofs.Lines.{widths_small}
use Rattle.nr_fill.proofs.Planning.{is_prefix}
use Rattle.nr_fill.proofs.line.Line.prefix.Goals as goal

pub sums-sums-requires-clause-wide : goal.sums-sums-requires-clause-wide
sums-sums-requires-clause-wide c =
    let small = widths_small c.self.invariant in
    let taken = sum_by-take-le piece_width c.self.inside.row.pieces c.args.n in
    omega arith

pub overflow_sub-width : goal.overflow_sub-width
overflow_sub-width c =
    let s = c.self.inside in
    let long = length-take-le s.pieces s.row.pieces c.self.invariant.pieces_within in
    let count = ap (λ (v : Lined). length v.collected.pieces) c.self.view_is in
    let prefix = is_prefix c.args.n c.sums-sums.result.wide c.from-first.result c.first_join.result c.self.invariant c.requires.some (omega (arith, c.requires.within))
    c.sums-sums.ensures.wide c.first_join.ensures (c.from-first.ensures ∙ c.width.ensures) in
    prefix.first_within

pub overflow_add-width : goal.overflow_add-width
overflow_add-width c =
    let small = widths_small c.self.invariant in
    let taken = sum_by-take-le piece_width c.self.inside.row.pieces c.args.n in
    omega (arith, c.sums-sums.ensures.wide, c.from.ensures)

pub returns : goal.returns
returns c =
    let s = c.self.inside in
    let n = c.args.n in
    let long = length-take-le s.pieces s.row.pieces c.self.invariant.pieces_within in
    let count = ap (λ (v : Lined). length v.collected.pieces) c.self.view_is in
    let prefix = is_prefix n c.sums-sums.result.wide c.from-first.result c.first_join.result c.self.invariant c.requires.some (omega (arith, c.requires.within))
    c.sums-sums.ensures.wide c.first_join.ensures (c.from-first.ensures ∙ c.width.ensures) in
    let prefix_is : take n s.row.pieces ≡ take n c.args.self.now.collected.pieces = sym prefix.prefix ∙ ap (λ (v : Lined). take n v.collected.pieces) c.self.view_is in
    let hyphen : c.hyphen-hyphens.result ≡ hyphen_before (drop n (take s.pieces s.row.pieces)) = c.hyphen-hyphens.ensures.value in
    record {
      left_over = c.saturating_sub.ensures ∙ ap (λ k. s.margins.length - k) (prefix.width c.from.result (c.from.ensures ∙ hyphen)) ∙ ap (λ (v : Lined). left_over v.collected n) c.self.view_is;
      short = omega (arith, c.saturating_sub.ensures);
      cells = c.sums-sums.ensures.cells ∙ ap cells_in prefix_is;
      wide = c.sums-sums.ensures.wide ∙ ap pieces_width prefix_is;
      gaps = c.sums-sums.ensures.gaps ∙ ap gaps prefix_is;
      hyphens = hyphen ∙ ap (λ (v : Lined). hyphen_before (drop n v.collected.pieces)) c.self.view_is;
      one = c.hyphen-hyphens.ensures.one;
      small = prefix.small;
    }
