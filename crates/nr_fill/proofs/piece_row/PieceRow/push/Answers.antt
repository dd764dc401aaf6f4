use Rattle.std.proofs.Common.{◌∷◌, ◌++◌, [], min, arith, length-append}
use Rattle.nr_fill.proofs.Laying.{room_left, is_laid_longer, laid_of_extended}
use Rattle.nr_fill.proofs.piece_row.PieceRow.push.Goals as goal

pub push-requires : goal.push-requires
push-requires c = let left = room_left c.args.self.now 1 c.self.invariant c.self.view_is c.requires.no_title (omega (arith, c.requires.room)) in omega arith

pub invariant_of-self : goal.invariant_of-self
invariant_of-self c =
    let s = c.self.inside in
    let h = c.self.invariant in
    let left = room_left c.args.self.now 1 h c.self.view_is c.requires.no_title (omega (arith, c.requires.room)) in
    let long = length-append s.cells.items (c.args.cell ∷ []) in
    rw (c.push.ensures.items, c.push.ensures.room) (is_laid_longer (s.cells.items ++ c.args.cell ∷ []) 1 h left.0 long left.1)

pub returns : goal.returns
returns c =
    let s = c.self.inside in
    let h = c.self.invariant in
    let left = room_left c.args.self.now 1 h c.self.view_is c.requires.no_title (omega (arith, c.requires.room)) in
    rw (c.push.ensures.items, c.push.ensures.room, ← c.self.view_is) (laid_of_extended (min s.slots.capacity s.cells.capacity) (c.args.cell ∷ []) h left.0)
