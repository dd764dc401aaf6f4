use Rattle.std.proofs.Common.{min, arith}
use Rattle.nr_fill.proofs.Laying.{slots_are, back_cells, is_laid_opened, laid_of_opened}
use Rattle.nr_fill.proofs.piece_row.PieceRow.open_after.Goals as goal

pub truncate-requires : goal.truncate-requires
truncate-requires c =
    let s = c.self.inside in
    let pieces = slots_are c.args.self.now (min s.slots.capacity s.cells.capacity) c.self.invariant c.self.view_is in
    omega (arith, c.requires.within)

pub overflow_sub-self : goal.overflow_sub-self
overflow_sub-self c =
    let s = c.self.inside in
    let cells = back_cells c.args.self.now (min s.slots.capacity s.cells.capacity) c.args.n c.args.cells c.self.invariant c.self.view_is c.requires.cells in
    omega (arith, cells.1)

pub invariant_of-self : goal.invariant_of-self
invariant_of-self c =
    let s = c.self.inside in
    let cells = back_cells c.args.self.now (min s.slots.capacity s.cells.capacity) c.args.n c.args.cells c.self.invariant c.self.view_is c.requires.cells in
    rw (c.truncate.ensures.items, c.truncate.ensures.room) (is_laid_opened c.args.n c.args.cells c.self.invariant cells.1)

pub returns : goal.returns
returns c =
    let s = c.self.inside in
    let room = min s.slots.capacity s.cells.capacity in
    let cells = back_cells c.args.self.now room c.args.n c.args.cells c.self.invariant c.self.view_is c.requires.cells in
    rw (c.truncate.ensures.items, c.truncate.ensures.room, ← c.self.view_is) (laid_of_opened room c.args.n c.args.cells c.self.invariant cells.0)
