use Rattle.std.proofs.Common.{◌≡◌, ◌+◌, ◌-◌, [], ◌++◌, length, take, drop, replicate, get_or, ap, sym, ◌∙◌, append_assoc, arith, subst}
use Rattle.std.proofs.lemmas.List.{take_rest, length-take-le}
use Rattle.std.proofs.lemmas.List.Sums.{sum_by-drop_more}
use Rattle.nr_vectors.specs.Cell.{blank}
use Rattle.nr_fill.specs.declared.piece.PieceSlot.{PieceSlot}
use Rattle.nr_fill.specs.Extents.{IsExtent}
use Rattle.nr_fill.specs.Slots.{blank_slot, pieces_of}
use Rattle.nr_fill.specs.Spreading.{blanks_before, cells_in_line}
use Rattle.nr_fill.proofs.SettingPieces.{cells_in_line_first, set_more, set_all_pieces}
use Rattle.nr_fill.proofs.cutting.set_pieces.Goals as goal

pub slice_bounds-extend-end : goal.slice_bounds-extend-end
slice_bounds-extend-end g c =
    let first = get_or c.args.slots.now 0 blank_slot in
    let total = sum_by-drop_more (λ (s : PieceSlot). s.len) c.args.slots.now 0 blank_slot c.requires.some in
    sym (length-take-le first.len c.args.cells.now (omega (arith, c.requires.cells)))

pub slice_bounds-with_cells-end : goal.slice_bounds-with_cells-end
slice_bounds-with_cells-end g c =
    let first = get_or c.args.slots.now 0 blank_slot in
    let total = sum_by-drop_more (λ (s : PieceSlot). s.len) c.args.slots.now 0 blank_slot c.requires.some in
    sym (length-take-le first.len c.args.cells.now (omega (arith, c.requires.cells)))

pub loop-slot-init : goal.loop-slot-init
loop-slot-init g c =
    let slots = c.args.slots.now in
    let cells = c.args.cells.now in
    let first = get_or slots 0 blank_slot in
    let total = sum_by-drop_more (λ (s : PieceSlot). s.len) slots 0 blank_slot c.requires.some in
    let extent = c.with_cells-extent.ensures [] (c.none.ensures.none, c.none.ensures.blank) in
    rw (take_rest slots 1) record {
      gap = omega arith;
      taken = omega arith;
      set = (take first.len cells, c.extend.ensures, cells_in_line_first c.args.extra slots cells blank_slot c.requires.some, extent);
    }

pub slice_bounds-extend-end-in-loop-slot : goal.slice_bounds-extend-end-in-loop-slot
slice_bounds-extend-end-in-loop-slot g c =
    let slots = c.args.slots.now in
    let others = take (length slots - 1) (drop 1 slots) in
    let more = sum_by-drop_more (λ (s : PieceSlot). s.len) others c.loop-slot.slot-index blank_slot c.loop-slot-test.true in
    omega (arith, c.loop-slot.invariant.taken, c.requires.cells)

pub slice_bounds-with_cells-end-in-loop-slot : goal.slice_bounds-with_cells-end-in-loop-slot
slice_bounds-with_cells-end-in-loop-slot g c =
    let slots = c.args.slots.now in
    let others = take (length slots - 1) (drop 1 slots) in
    let more = sum_by-drop_more (λ (s : PieceSlot). s.len) others c.loop-slot.slot-index blank_slot c.loop-slot-test.true in
    omega (arith, c.loop-slot.invariant.taken, c.requires.cells)

pub loop-slot-preserved : goal.loop-slot-preserved
loop-slot-preserved g c =
    let slots = c.args.slots.now in
    let cells = c.args.cells.now in
    let x = c.args.extra in
    let loop = c.loop-slot in
    let others = take (length slots - 1) (drop 1 slots) in
    let i = loop.slot-index in
    let slot = get_or others i blank_slot in
    let total = sum_by-drop_more (λ (s : PieceSlot). s.len) others i blank_slot c.loop-slot-test.true in
    let taken = loop.invariant.taken in
    let gap = loop.invariant.gap in
    let part : (loop.taken + slot.len) - loop.taken ≡ slot.len = omega arith in
    let blanks = replicate (blanks_before x loop.gap slot.join) blank in
    let set_blanks = replicate c.blanks_of-blanks.result blank in
    let piece = take slot.len (drop loop.taken cells) in
    let set_piece = take ((loop.taken + slot.len) - loop.taken) (drop loop.taken cells) in
    record {
      gap = omega (arith, c.gap_after-gap.ensures.near);
      taken = omega arith;
      set =
          let old = loop.invariant.set in
          let joined = g.met.S.CellSink.adds_both c.args.out.now loop.out c.blanks.new.self old.0 set_blanks old.1 c.blanks.ensures in
          let longer = g.met.S.CellSink.adds_both c.args.out.now c.blanks.new.self c.extend-in-loop-slot.new.self (old.0 ++ set_blanks) set_piece joined c.extend-in-loop-slot.ensures in
          let extent = c.with_cells-extent-in-loop-slot.ensures (old.0 ++ set_blanks) (c.with_blanks.ensures old.0 old.3) in
          let same : (old.0 ++ set_blanks) ++ set_piece ≡ old.0 ++ (blanks ++ piece) =
          ap (λ n. (old.0 ++ replicate n blank) ++ set_piece) c.blanks_of-blanks.ensures ∙ ap (λ n. (old.0 ++ blanks) ++ take n (drop loop.taken cells)) part ∙ append_assoc old.0 blanks piece in (
            old.0 ++ (blanks ++ piece),
            subst (λ zs. g.S.CellSink.Adds c.args.out.now zs c.extend-in-loop-slot.new.self) same longer,
            rw c.gap_after-gap.ensures.next (set_more x loop.gap others i blank_slot cells loop.taken old.0 (cells_in_line x (pieces_of slots cells)) c.loop-slot-test.true old.2),
            subst (λ zs. IsExtent zs c.with_cells-extent-in-loop-slot.result.count c.with_cells-extent-in-loop-slot.result.written) same extent,
          );
    }

pub returns : goal.returns
returns g c =
    let old = c.loop-slot.invariant.set in
    let slots = c.args.slots.now in
    let others = take (length slots - 1) (drop 1 slots) in
    let all = set_all_pieces c.args.extra c.loop-slot.gap others c.loop-slot.slot-index (drop c.loop-slot.taken c.args.cells.now) old.0 (cells_in_line c.args.extra (pieces_of slots c.args.cells.now)) c.loop-slot-test.false old.2 in
    record {
      set = subst (λ zs. g.S.CellSink.Adds c.args.out.now zs c.loop-slot.out) all old.1;
      extent = subst (λ zs. IsExtent zs c.loop-slot.extent.count c.loop-slot.extent.written) all old.3;
    }
