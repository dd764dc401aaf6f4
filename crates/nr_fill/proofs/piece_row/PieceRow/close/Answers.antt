use Rattle.std.proofs.lemmas.Grind.{common_steps}
use Rattle.std.proofs.Common.{◌≡◌, ◌-◌, ◌∷◌, [], length, min, ap, sym, ◌∙◌, arith, length-append}
use Rattle.nr_fill.specs.Laid.{Laid}
use Rattle.std.proofs.lemmas.List.Sums.{sum_by_push}
use Rattle.nr_fill.specs.declared.piece.PieceSlot.{PieceSlot}
use Rattle.nr_fill.proofs.PiecesOf.{length-pieces_of}
use Rattle.nr_fill.proofs.Laying.{laid_of_closed, length-last}
use Rattle.nr_fill.proofs.piece_row.PieceRow.close.Goals as goal

pub push-requires : goal.push-requires
push-requires c =
    let s = c.self.inside in
    let same : min s.slots.capacity s.cells.capacity ≡ c.args.self.now.capacity = ap (λ (l : Laid). l.capacity) c.self.view_is in
    let pieces : length s.slots.items ≡ length c.args.self.now.pieces = sym (length-pieces_of s.slots.items s.cells.items) ∙ ap (λ (l : Laid). length l.pieces) c.self.view_is in
    omega (arith, c.requires.room)

pub invariant_of-self : goal.invariant_of-self
invariant_of-self c =
    let s = c.self.inside in
    let h = c.self.invariant in
    let room = min s.slots.capacity s.cells.capacity in
    let same : room ≡ c.args.self.now.capacity = ap (λ (l : Laid). l.capacity) c.self.view_is in
    let pieces : length s.slots.items ≡ length c.args.self.now.pieces = sym (length-pieces_of s.slots.items s.cells.items) ∙ ap (λ (l : Laid). length l.pieces) c.self.view_is in
    let last : s.read - s.pieced ≡ length c.args.self.now.last = sym (length-last room h) ∙ ap (λ (l : Laid). length l.last) c.self.view_is in
    let slot : PieceSlot = record { join = c.args.join; len = c.args.n } in
    let longer = length-append s.slots.items (slot ∷ []) in
    let total = sum_by_push (λ (t : PieceSlot). t.len) s.slots.items slot in
    let pieced = h.pieced_is in
    rw (c.push.ensures.items, c.push.ensures.room) record {
      pieced_is = omega arith;
      pieced_within = omega (arith, c.requires.within, h.pieced_within);
      read_within = h.read_within;
      cells_within = h.cells_within;
      slots_within = omega (arith, c.requires.room);
      same_rooms = h.same_rooms;
      is_small = h.is_small;
    }

pub returns : goal.returns
returns c =
    let s = c.self.inside in
    let h = c.self.invariant in
    let room = min s.slots.capacity s.cells.capacity in
    let last : s.read - s.pieced ≡ length c.args.self.now.last = sym (length-last room h) ∙ ap (λ (l : Laid). length l.last) c.self.view_is in
    rw (c.push.ensures.items, c.push.ensures.room, ← c.self.view_is) (laid_of_closed room c.args.join c.args.n h (omega (arith, c.requires.within)))

pub overflow_cast-n : goal.overflow_cast-n
overflow_cast-n c = grind (arith, common_steps)

pub overflow_add-self : goal.overflow_add-self
overflow_add-self c = grind (arith, common_steps)
