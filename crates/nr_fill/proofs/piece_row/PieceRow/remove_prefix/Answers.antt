use Rattle.std.proofs.Common.{min, arith}
use Rattle.nr_fill.proofs.Laying.{slots_are, prefix_cells, is_laid_removed, laid_of_removed}
use Rattle.nr_fill.proofs.piece_row.PieceRow.remove_prefix.Goals as goal

pub remove_prefix-requires : goal.remove_prefix-requires
remove_prefix-requires c =
    let s = c.self.inside in
    let pieces = slots_are c.args.self.now (min s.slots.capacity s.cells.capacity) c.self.invariant c.self.view_is in
    omega (arith, c.requires.within)

pub remove_prefix-requires-2 : goal.remove_prefix-requires-2
remove_prefix-requires-2 c =
    let s = c.self.inside in
    let cells = prefix_cells c.args.self.now (min s.slots.capacity s.cells.capacity) c.args.n c.args.cells c.self.invariant c.self.view_is c.requires.cells in
    omega (arith, c.self.invariant.pieced_within, c.self.invariant.read_within)

pub overflow_sub-self : goal.overflow_sub-self
overflow_sub-self c =
    let s = c.self.inside in
    let cells = prefix_cells c.args.self.now (min s.slots.capacity s.cells.capacity) c.args.n c.args.cells c.self.invariant c.self.view_is c.requires.cells in
    cells.1

pub overflow_sub-self-2 : goal.overflow_sub-self-2
overflow_sub-self-2 c =
    let s = c.self.inside in
    let cells = prefix_cells c.args.self.now (min s.slots.capacity s.cells.capacity) c.args.n c.args.cells c.self.invariant c.self.view_is c.requires.cells in
    omega (arith, c.self.invariant.pieced_within)

pub invariant_of-self : goal.invariant_of-self
invariant_of-self c =
    let s = c.self.inside in
    let cells = prefix_cells c.args.self.now (min s.slots.capacity s.cells.capacity) c.args.n c.args.cells c.self.invariant c.self.view_is c.requires.cells in
    rw (c.remove_prefix.ensures.items, c.remove_prefix.ensures.room, c.remove_prefix-2.ensures.items, c.remove_prefix-2.ensures.room)
    (is_laid_removed c.args.n c.args.cells c.self.invariant cells.0 cells.1)

pub returns : goal.returns
returns c =
    let s = c.self.inside in
    let room = min s.slots.capacity s.cells.capacity in
    let cells = prefix_cells c.args.self.now room c.args.n c.args.cells c.self.invariant c.self.view_is c.requires.cells in
    rw (c.remove_prefix.ensures.items, c.remove_prefix.ensures.room, c.remove_prefix-2.ensures.items, c.remove_prefix-2.ensures.room, ← c.self.view_is)
    (laid_of_removed room c.args.n c.args.cells c.self.invariant cells.0)
