use Rattle.std.proofs.Common.{length, min, take, ap, sym, ◌∙◌, arith}
use Rattle.std.proofs.lemmas.List.{length-take-le}
use Rattle.nr_fill.specs.Cutting.{pieces_width}
use Rattle.nr_fill.specs.Piece.{cells_in}
use Rattle.nr_fill.specs.Spreading.{gaps}
use Rattle.nr_fill.proofs.PiecesOf.{pieces_width-pieces_of, cells_in-pieces_of, gaps-pieces_of}
use Rattle.nr_fill.proofs.Laying.{slots_are, prefix_is, prefix_within}
use Rattle.nr_fill.proofs.piece_row.PieceRow.sums.Goals as goal

pub slice_bounds-sums_of-end : goal.slice_bounds-sums_of-end
slice_bounds-sums_of-end c =
    let s = c.self.inside in
    let pieces = slots_are c.args.self.now (min s.slots.capacity s.cells.capacity) c.self.invariant c.self.view_is in
    let slots = ap length c.as_slice.ensures.value in
    sym (length-take-le c.args.n c.as_slice.result.now (omega (arith, c.requires.within)))

pub sums_of-requires-clause-wide : goal.sums_of-requires-clause-wide
sums_of-requires-clause-wide c =
    let s = c.self.inside in
    let is = prefix_is c.args.self.now (min s.slots.capacity s.cells.capacity) c.args.n c.self.invariant c.self.view_is in
    let wide = pieces_width-pieces_of (take c.args.n s.slots.items) s.cells.items (prefix_within c.args.n c.self.invariant).0 in
    let same = ap pieces_width is in
    rw c.as_slice.ensures.value (omega (arith, c.requires.wide))

pub returns-clause-cells : goal.returns-clause-cells
returns-clause-cells c =
    let s = c.self.inside in
    (rw c.as_slice.ensures.value at c.sums_of.ensures.cells) ∙ sym (cells_in-pieces_of (take c.args.n s.slots.items) s.cells.items (prefix_within c.args.n c.self.invariant).0)
    ∙ ap cells_in (prefix_is c.args.self.now (min s.slots.capacity s.cells.capacity) c.args.n c.self.invariant c.self.view_is)

pub returns-clause-wide : goal.returns-clause-wide
returns-clause-wide c =
    let s = c.self.inside in
    (rw c.as_slice.ensures.value at c.sums_of.ensures.wide) ∙ sym (pieces_width-pieces_of (take c.args.n s.slots.items) s.cells.items (prefix_within c.args.n c.self.invariant).0)
    ∙ ap pieces_width (prefix_is c.args.self.now (min s.slots.capacity s.cells.capacity) c.args.n c.self.invariant c.self.view_is)

pub returns-clause-gaps : goal.returns-clause-gaps
returns-clause-gaps c =
    let s = c.self.inside in
    (rw c.as_slice.ensures.value at c.sums_of.ensures.gaps) ∙ sym (gaps-pieces_of (take c.args.n s.slots.items) s.cells.items)
    ∙ ap gaps (prefix_is c.args.self.now (min s.slots.capacity s.cells.capacity) c.args.n c.self.invariant c.self.view_is)
