use Rattle.std.proofs.lemmas.Grind.{common_steps}
use Rattle.std.proofs.Common.{◌≡◌, ◌+◌, ◌≤◌, ◌++◌, length, min, take, drop, replicate, arith, length-drop, length-append}
use Rattle.std.proofs.lemmas.List.{length-replicate, length-take-le}
use Rattle.nr_fill.proofs.Laying.{room_left, last_is, is_laid_longer, laid_of_inserted}
use Rattle.nr_fill.proofs.piece_row.PieceRow.insert_copies.Goals as goal

pub insert_copies-requires-clause-room : goal.insert_copies-requires-clause-room
insert_copies-requires-clause-room c = let left = room_left c.args.self.now c.args.n c.self.invariant c.self.view_is c.requires.no_title c.requires.room in left.1

pub invariant_of-self : goal.invariant_of-self
invariant_of-self c =
    let s = c.self.inside in
    let h = c.self.invariant in
    let n = c.args.n in
    let at = s.pieced + c.args.place in
    let left = room_left c.args.self.now n h c.self.view_is c.requires.no_title c.requires.room in
    let last = last_is c.args.self.now (min s.slots.capacity s.cells.capacity) h c.self.view_is in
    let within : at ≤ length s.cells.items = omega (arith, c.requires.within, h.pieced_within) in
    let long : length (take at s.cells.items ++ replicate n c.args.cell ++ drop at s.cells.items) ≡ length s.cells.items + n =
    omega (
      arith,
      length-append (take at s.cells.items ++ replicate n c.args.cell) (drop at s.cells.items),
      length-append (take at s.cells.items) (replicate n c.args.cell),
      length-replicate n c.args.cell,
      length-drop at s.cells.items,
      length-take-le at s.cells.items within,
    ) in
    rw (c.insert_copies.ensures.items, c.insert_copies.ensures.room) (is_laid_longer (take at s.cells.items ++ replicate n c.args.cell ++ drop at s.cells.items) n h left.0 long left.1)

pub returns : goal.returns
returns c =
    let s = c.self.inside in
    let h = c.self.invariant in
    let room = min s.slots.capacity s.cells.capacity in
    let left = room_left c.args.self.now c.args.n h c.self.view_is c.requires.no_title c.requires.room in
    let last = last_is c.args.self.now room h c.self.view_is in
    let within : s.pieced + c.args.place ≤ s.read = omega (arith, c.requires.within, h.pieced_within) in
    rw (c.insert_copies.ensures.items, c.insert_copies.ensures.room, ← c.self.view_is) (laid_of_inserted room c.args.place c.args.n c.args.cell h left.0 within)

pub insert_copies-requires-clause-within : goal.insert_copies-requires-clause-within
insert_copies-requires-clause-within c = grind (arith, common_steps)
