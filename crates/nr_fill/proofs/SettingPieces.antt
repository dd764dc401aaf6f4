-- Pieces set in a row one after another.
use Rattle.std.proofs.Common.{◌≡◌, ℕ, ◌+◌, ◌≤◌, ◌<◌, List, [], ◌∷◌, ◌++◌, length, take, drop, replicate, get_or, refl, ap, sym, ◌∙◌, append_assoc, arith}
use Rattle.std.proofs.lemmas.List.{append-nil, drop_more, drop_all, drop-drop}
use Rattle.std.proofs.lemmas.List.Sums.{sum_by-le-sum_by}
use Rattle.nr_vectors.specs.Cell.{blank}
use Rattle.nr_vectors.specs.declared.cell.Cell.{Cell}
use Rattle.nr_fill.specs.declared.piece.PieceSlot.{PieceSlot}
use Rattle.nr_fill.specs.declared.setting.Extra.{Extra}
use Rattle.nr_fill.specs.Cutting.{join_width}
use Rattle.nr_fill.specs.Slots.{pieces_of, cells_in_slots, slots_width}
use Rattle.nr_fill.specs.Spreading.{blanks_before, cells_after, cells_in_line, next_gap}

-- cells are no more than the width
pub cells_in_slots-le : (slots : List PieceSlot) → cells_in_slots slots ≤ slots_width slots
cells_in_slots-le slots = sum_by-le-sum_by (λ (s : PieceSlot). s.len) (λ (s : PieceSlot). join_width s.join + s.len) slots (λ s. omega arith)

-- the line begins with the first piece's cells
pub cells_in_line_first : (x : Extra) (slots : List PieceSlot) (cells : List Cell) (d : PieceSlot) → 0 < length slots
    → take (get_or slots 0 d).len cells ++ cells_after x 1 (pieces_of (drop 1 slots) (drop (get_or slots 0 d).len cells)) ≡ cells_in_line x (pieces_of slots cells)
cells_in_line_first x [] cells d h = absurd (omega arith)
cells_in_line_first x (slot ∷ slots) cells d h = refl

-- one piece more is set
pub set_more : (x : Extra) (gap : ℕ) (others : List PieceSlot) (i : ℕ) (d : PieceSlot) (cells : List Cell) (taken : ℕ) (done whole : List Cell) → i < length others
    → done ++ cells_after x gap (pieces_of (drop i others) (drop taken cells)) ≡ whole
    → (done ++ (replicate (blanks_before x gap (get_or others i d).join) blank ++ take (get_or others i d).len (drop taken cells)))
    ++ cells_after x (next_gap gap (get_or others i d).join) (pieces_of (drop (i + 1) others) (drop (taken + (get_or others i d).len) cells)) ≡ whole
set_more x gap others i d cells taken done whole below h =
    let slot = get_or others i d in
    let blanks = replicate (blanks_before x gap slot.join) blank in
    let part = take slot.len (drop taken cells) in
    let rest = cells_after x (next_gap gap slot.join) (pieces_of (drop (i + 1) others) (drop (taken + slot.len) cells)) in
    let same = ap (λ zs. cells_after x (next_gap gap slot.join) (pieces_of (drop (i + 1) others) zs)) (drop-drop slot.len taken cells) in
    let split : cells_after x gap (pieces_of (drop i others) (drop taken cells)) ≡ (blanks ++ part) ++ rest =
    ap (λ zs. cells_after x gap (pieces_of zs (drop taken cells))) (drop_more others i d below) ∙ ap (λ zs. (blanks ++ part) ++ zs) same in
    append_assoc done (blanks ++ part) rest ∙ ap (λ zs. done ++ zs) (sym split) ∙ h

-- all pieces are set
pub set_all_pieces : (x : Extra) (gap : ℕ) (others : List PieceSlot) (i : ℕ) (cells done whole : List Cell) → length others ≤ i
    → done ++ cells_after x gap (pieces_of (drop i others) cells) ≡ whole → done ≡ whole
set_all_pieces x gap others i cells done whole end h =
    sym (append-nil done) ∙ ap (λ zs. done ++ cells_after x gap (pieces_of zs cells)) (sym (drop_all i others end)) ∙ h
