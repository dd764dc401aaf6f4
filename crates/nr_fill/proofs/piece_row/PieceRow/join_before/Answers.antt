use Rattle.std.proofs.Common.{List, length, min, drop, get_or, ap, sym, ◌∙◌, arith}
use Rattle.std.proofs.lemmas.List.{drop_all}
use Rattle.nr_fill.specs.Laid.{Laid}
use Rattle.nr_fill.specs.declared.piece.PieceSlot.{PieceSlot}
use Rattle.nr_fill.specs.Piece.{join_before}
use Rattle.nr_fill.specs.Slots.{blank_slot}
use Rattle.nr_fill.proofs.Laying.{slots_are}
use Rattle.nr_fill.proofs.PiecesOf.{join_before-pieces_of}
use Rattle.nr_fill.proofs.piece_row.PieceRow.join_before.Goals as goal

pub returns-then-n-len : goal.returns-then-n-len
returns-then-n-len c =
    let s = c.self.inside in
    let slots = slots_are c.args.self.now (min s.slots.capacity s.cells.capacity) c.self.invariant c.self.view_is in
    let none = drop_all c.args.n c.args.self.now.pieces (omega (arith, c.len.ensures.value, c.if-n-len.true)) in
    sym (ap (λ ps. join_before ps c.args.last) none)

pub offset_bounds-as_slice-n : goal.offset_bounds-as_slice-n
offset_bounds-as_slice-n c =
    let s = c.self.inside in
    let h = c.self.invariant in
    let slots = slots_are c.args.self.now (min s.slots.capacity s.cells.capacity) h c.self.view_is in
    omega (arith, c.requires, h.slots_within, h.is_small)

pub bounds-as_slice-n : goal.bounds-as_slice-n
bounds-as_slice-n c =
    let s = c.self.inside in
    let slots = slots_are c.args.self.now (min s.slots.capacity s.cells.capacity) c.self.invariant c.self.view_is in
    let same = ap length c.as_slice.ensures.value in
    omega (arith, c.requires, c.len.ensures.value, c.if-n-len.false)

pub returns : goal.returns
returns c =
    let s = c.self.inside in
    let n = c.args.n in
    let slots = slots_are c.args.self.now (min s.slots.capacity s.cells.capacity) c.self.invariant c.self.view_is in
    ap (λ (xs : List PieceSlot). (get_or xs n blank_slot).join) c.as_slice.ensures.value
    ∙ sym (join_before-pieces_of s.slots.items s.cells.items n blank_slot c.args.last (omega (arith, c.requires, c.len.ensures.value, c.if-n-len.false)))
    ∙ ap (λ (l : Laid). join_before (drop n l.pieces) c.args.last) c.self.view_is
