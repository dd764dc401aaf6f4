use Rattle.std.proofs.Common.{◌<◌, List, length, min, take, drop, get_or, ap, sym, ◌∙◌, arith}
use Rattle.std.proofs.lemmas.List.{get_or-take, length-take-le}
use Rattle.nr_fill.specs.declared.piece.PieceSlot.{PieceSlot}
use Rattle.nr_fill.specs.Cutting.{hyphen_before, hyphen_width}
use Rattle.nr_fill.specs.Slots.{blank_slot}
use Rattle.nr_fill.proofs.LongestPrefix.{hyphen_at}
use Rattle.nr_fill.proofs.Laying.{slots_are, prefix_is}
use Rattle.nr_fill.proofs.piece_row.PieceRow.hyphen.Goals as goal

pub offset_bounds-as_slice-n : goal.offset_bounds-as_slice-n
offset_bounds-as_slice-n c =
    let s = c.self.inside in
    let slots = slots_are c.args.self.now (min s.slots.capacity s.cells.capacity) c.self.invariant c.self.view_is in
    let h = c.self.invariant in
    omega (arith, c.requires.within, c.requires.all, h.slots_within, h.is_small)

pub bounds-as_slice-n : goal.bounds-as_slice-n
bounds-as_slice-n c =
    let s = c.self.inside in
    let slots = slots_are c.args.self.now (min s.slots.capacity s.cells.capacity) c.self.invariant c.self.view_is in
    let same = ap length c.as_slice.ensures.value in
    omega (arith, c.requires.within, c.requires.all)

pub returns-clause-value : goal.returns-clause-value
returns-clause-value c =
    let s = c.self.inside in
    let room = min s.slots.capacity s.cells.capacity in
    let n = c.args.n in
    let all = c.args.all in
    let slots = slots_are c.args.self.now room c.self.invariant c.self.view_is in
    let long = length-take-le all s.slots.items (omega (arith, c.requires.all)) in
    let below : n < length (take all s.slots.items) = omega (arith, c.requires.within) in
    c.hyphen.ensures.value ∙ ap (λ (xs : List PieceSlot). hyphen_width (get_or xs n blank_slot).join) c.as_slice.ensures.value
    ∙ ap (λ (t : PieceSlot). hyphen_width t.join) (sym (get_or-take all s.slots.items n blank_slot (omega arith)))
    ∙ sym (hyphen_at (take all s.slots.items) s.cells.items n blank_slot below)
    ∙ ap (λ ps. hyphen_before (drop n ps)) (prefix_is c.args.self.now room all c.self.invariant c.self.view_is)
