use Rattle.std.proofs.Common.{length, min, ap, sym, ◌∙◌, arith}
use Rattle.std.proofs.lemmas.List.{length-take-le}
use Rattle.nr_fill.specs.Cutting.{cut}
use Rattle.nr_fill.proofs.Laying.{slots_are, prefix_is, prefix_within, prefix_widths}
use Rattle.nr_fill.proofs.piece_row.PieceRow.longest_prefix.Goals as goal

pub slice_bounds-slots-end : goal.slice_bounds-slots-end
slice_bounds-slots-end c =
    let s = c.self.inside in
    let pieces = slots_are c.args.self.now (min s.slots.capacity s.cells.capacity) c.self.invariant c.self.view_is in
    let slots = ap length c.as_slice.ensures.value in
    sym (length-take-le c.args.n c.as_slice.result.now (omega (arith, c.requires.within)))

pub overflow_sub-width : goal.overflow_sub-width
overflow_sub-width c =
    let s = c.self.inside in
    let prefix = prefix_widths c.args.self.now (min s.slots.capacity s.cells.capacity) c.args.n c.args.wide c.self.invariant c.self.view_is c.requires.some c.requires.within c.requires.wide in
    omega (arith, c.from.ensures, rw c.as_slice.ensures.value at c.width.ensures)

pub longest_prefix_from_end-requires-clause-wide : goal.longest_prefix_from_end-requires-clause-wide
longest_prefix_from_end-requires-clause-wide c =
    let s = c.self.inside in
    let prefix = prefix_widths c.args.self.now (min s.slots.capacity s.cells.capacity) c.args.n c.args.wide c.self.invariant c.self.view_is c.requires.some c.requires.within c.requires.wide in
    rw c.as_slice.ensures.value (omega (arith, c.from.ensures, rw c.as_slice.ensures.value at c.width.ensures))

pub longest_prefix-requires-clause-wide : goal.longest_prefix-requires-clause-wide
longest_prefix-requires-clause-wide c =
    let s = c.self.inside in
    let prefix = prefix_widths c.args.self.now (min s.slots.capacity s.cells.capacity) c.args.n c.args.wide c.self.invariant c.self.view_is c.requires.some c.requires.within c.requires.wide in
    rw c.as_slice.ensures.value (omega (arith, c.requires.small))

pub returns-then-width-line-clause-pieces : goal.returns-then-width-line-clause-pieces
returns-then-width-line-clause-pieces c =
    let s = c.self.inside in
    (rw c.as_slice.ensures.value at c.longest_prefix_from_end.ensures.pieces) s.cells.items (prefix_within c.args.n c.self.invariant).0
    ∙ ap (cut c.args.line) (prefix_is c.args.self.now (min s.slots.capacity s.cells.capacity) c.args.n c.self.invariant c.self.view_is)

pub returns-else-width-line-clause-pieces : goal.returns-else-width-line-clause-pieces
returns-else-width-line-clause-pieces c =
    let s = c.self.inside in
    (rw c.as_slice.ensures.value at c.longest_prefix.ensures.pieces) s.cells.items (prefix_within c.args.n c.self.invariant).0
    ∙ ap (cut c.args.line) (prefix_is c.args.self.now (min s.slots.capacity s.cells.capacity) c.args.n c.self.invariant c.self.view_is)
