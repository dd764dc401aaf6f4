use Rattle.std.proofs.Common.{◌∷◌, [], min, arith, length-append}
use Rattle.nr_fill.proofs.Laying.{title_room_left, laid_of_titled}
use Rattle.nr_fill.proofs.piece_row.PieceRow.push_title.Goals as goal

pub push-requires : goal.push-requires
push-requires c = title_room_left c.args.self.now c.self.invariant c.self.view_is c.requires

pub invariant_of-self : goal.invariant_of-self
invariant_of-self c =
    let s = c.self.inside in
    let h = c.self.invariant in
    let long = length-append s.cells.items (c.args.cell ∷ []) in
    let below = title_room_left c.args.self.now h c.self.view_is c.requires in
    rw (c.push.ensures.items, c.push.ensures.room) record {
      pieced_is = h.pieced_is;
      pieced_within = h.pieced_within;
      read_within = omega (arith, h.read_within);
      cells_within = omega arith;
      slots_within = h.slots_within;
      same_rooms = h.same_rooms;
      is_small = h.is_small;
    }

pub returns : goal.returns
returns c =
    let s = c.self.inside in
    rw (c.push.ensures.items, c.push.ensures.room, ← c.self.view_is) (laid_of_titled (min s.slots.capacity s.cells.capacity) c.args.cell c.self.invariant)
