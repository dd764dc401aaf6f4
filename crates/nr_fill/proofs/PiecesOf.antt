-- The pieces that slots cut off a row of cells.
use Rattle.std.proofs.Common.{◌≡◌, ℕ, ◌+◌, ◌≤◌, ◌<◌, List, [], ◌∷◌, ◌++◌, length, take, drop, zero, suc, refl, ap, ap₂, sym, ◌∙◌, arith, length-take, length-drop, get_or, cond, length-append}
use Rattle.std.specs.Prelude.{count_by}
use Rattle.std.specs.List.{flat_map}
use Rattle.std.proofs.lemmas.List.{take-append-le, drop-append-le, drop-drop, take_all, drop_all}
use Rattle.std.proofs.lemmas.List.Sums.{sum_by-cons}
use Rattle.nr_vectors.specs.declared.cell.Cell.{Cell}
use Rattle.nr_fill.specs.declared.piece.Join.{Join}
use Rattle.nr_fill.specs.declared.piece.PieceSlot.{PieceSlot}
use Rattle.nr_fill.specs.Cutting.{join_width, piece_width, pieces_width, width, prefix_width, hyphen_before}
use Rattle.nr_fill.specs.Piece.{Piece, cells_in, join_before}
use Rattle.nr_fill.specs.Slots.{pieces_of, cells_in_slots, slots_width, gap_slots}
use Rattle.nr_fill.specs.Spreading.{gaps, is_gap}

-- as many pieces as slots
pub length-pieces_of : (slots : List PieceSlot) (cells : List Cell) → length (pieces_of slots cells) ≡ length slots
length-pieces_of [] cells = refl
length-pieces_of (slot ∷ slots) cells = ap suc (length-pieces_of slots (drop slot.len cells))

-- what stands after the pieces does not change them
pub pieces_of-append : (slots : List PieceSlot) (cells more : List Cell) → cells_in_slots slots ≤ length cells → pieces_of slots (cells ++ more) ≡ pieces_of slots cells
pieces_of-append [] cells more h = refl
pieces_of-append (slot ∷ slots) cells more h =
    let total = sum_by-cons (λ (s : PieceSlot). s.len) slot slots in
    let here : slot.len ≤ length cells = omega arith in
    let rest : cells_in_slots slots ≤ length (drop slot.len cells) = omega (arith, length-drop slot.len cells) in
    rw (take-append-le slot.len cells more here, drop-append-le slot.len cells more here, pieces_of-append slots (drop slot.len cells) more rest) refl

-- one more slot, one more piece
pub pieces_of_push : (slots : List PieceSlot) (slot : PieceSlot) (cells : List Cell)
    → pieces_of (slots ++ slot ∷ []) cells ≡ pieces_of slots cells ++ record { join = slot.join; cells = take slot.len (drop (cells_in_slots slots) cells) } ∷ []
pieces_of_push [] slot cells = refl
pieces_of_push (first ∷ slots) slot cells =
    let total = sum_by-cons (λ (s : PieceSlot). s.len) first slots in
    rw (total, ← drop-drop (cells_in_slots slots) first.len cells, pieces_of_push slots slot (drop first.len cells)) refl

-- the first pieces are those of the first slots
pub take-pieces_of : (n : ℕ) (slots : List PieceSlot) (cells : List Cell) → take n (pieces_of slots cells) ≡ pieces_of (take n slots) cells
take-pieces_of zero slots cells = refl
take-pieces_of (suc n) [] cells = refl
take-pieces_of (suc n) (slot ∷ slots) cells = rw (take-pieces_of n slots (drop slot.len cells)) refl

-- the other pieces are those of the other slots
pub drop-pieces_of : (n : ℕ) (slots : List PieceSlot) (cells : List Cell) → drop n (pieces_of slots cells) ≡ pieces_of (drop n slots) (drop (cells_in_slots (take n slots)) cells)
drop-pieces_of zero slots cells = refl
drop-pieces_of (suc n) [] cells = refl
drop-pieces_of (suc n) (slot ∷ slots) cells =
    let total = sum_by-cons (λ (s : PieceSlot). s.len) slot (take n slots) in
    rw (total, ← drop-drop (cells_in_slots (take n slots)) slot.len cells, drop-pieces_of n slots (drop slot.len cells)) refl

-- how a piece hangs on the one before it
pub join_before-pieces_of : (slots : List PieceSlot) (cells : List Cell) (n : ℕ) (d : PieceSlot) (j : Join) → n < length slots → join_before (drop n (pieces_of slots cells)) j ≡ (get_or slots n d).join
join_before-pieces_of [] cells n d j h = absurd (omega arith)
join_before-pieces_of (slot ∷ slots) cells zero d j h = refl
join_before-pieces_of (slot ∷ slots) cells (suc n) d j h = join_before-pieces_of slots (drop slot.len cells) n d j (omega arith)

-- pieces have as many cells as all of them one after another
pub length-flat_map : (ps : List Piece) → length (flat_map (λ (p : Piece). p.cells) ps) ≡ cells_in ps
length-flat_map [] = refl
length-flat_map (p ∷ ps) =
    let more = length-flat_map ps in
    let cells = sum_by-cons (λ (q : Piece). length q.cells) p ps in
    omega (arith, length-append p.cells (flat_map (λ (q : Piece). q.cells) ps))

-- the cells of the pieces
pub cells_in-pieces_of : (slots : List PieceSlot) (cells : List Cell) → cells_in_slots slots ≤ length cells → cells_in (pieces_of slots cells) ≡ cells_in_slots slots
cells_in-pieces_of [] cells h = refl
cells_in-pieces_of (slot ∷ slots) cells h =
    let total = sum_by-cons (λ (s : PieceSlot). s.len) slot slots in
    let charge = sum_by-cons (λ (p : Piece). length p.cells) (record { join = slot.join; cells = take slot.len cells }) (pieces_of slots (drop slot.len cells)) in
    let rest : cells_in_slots slots ≤ length (drop slot.len cells) = omega (arith, length-drop slot.len cells) in
    let more = cells_in-pieces_of slots (drop slot.len cells) rest in
    omega (arith, length-take slot.len cells)

-- the gaps and cells of the pieces
pub pieces_width-pieces_of : (slots : List PieceSlot) (cells : List Cell) → cells_in_slots slots ≤ length cells → pieces_width (pieces_of slots cells) ≡ slots_width slots
pieces_width-pieces_of [] cells h = refl
pieces_width-pieces_of (slot ∷ slots) cells h =
    let total = sum_by-cons (λ (s : PieceSlot). s.len) slot slots in
    let wide = sum_by-cons (λ (s : PieceSlot). join_width s.join + s.len) slot slots in
    let charge = sum_by-cons piece_width (record { join = slot.join; cells = take slot.len cells }) (pieces_of slots (drop slot.len cells)) in
    let rest : cells_in_slots slots ≤ length (drop slot.len cells) = omega (arith, length-drop slot.len cells) in
    let more = pieces_width-pieces_of slots (drop slot.len cells) rest in
    omega (arith, length-take slot.len cells)

-- how many of these pieces hang on a gap
count_by-pieces_of : (slots : List PieceSlot) (cells : List Cell) → count_by (λ (p : Piece). is_gap p.join) (pieces_of slots cells) ≡ count_by (λ (s : PieceSlot). is_gap s.join) slots
count_by-pieces_of [] cells = refl
count_by-pieces_of (slot ∷ slots) cells =
    sum_by-cons (λ (p : Piece). cond (is_gap p.join) 1 0) (record { join = slot.join; cells = take slot.len cells }) (pieces_of slots (drop slot.len cells))
    ∙ ap (λ n. cond (is_gap slot.join) 1 0 + n) (count_by-pieces_of slots (drop slot.len cells))
    ∙ sym (sum_by-cons (λ (s : PieceSlot). cond (is_gap s.join) 1 0) slot slots)

pub gaps-pieces_of : (slots : List PieceSlot) (cells : List Cell) → gaps (pieces_of slots cells) ≡ gap_slots slots
gaps-pieces_of [] cells = refl
gaps-pieces_of (slot ∷ slots) cells = count_by-pieces_of slots (drop slot.len cells)

-- the width of pieces is all but the first gap
pub width-first : (ps : List Piece) (d : Piece) → 0 < length ps → width ps + join_width (get_or ps 0 d).join ≡ pieces_width ps
width-first [] d h = absurd (omega arith)
width-first (p ∷ ps) d h = let all = sum_by-cons piece_width p ps in omega arith

pub width-le : (ps : List Piece) → width ps ≤ pieces_width ps
width-le [] = omega arith
width-le (p ∷ ps) = let all = sum_by-cons piece_width p ps in omega arith

-- all of them have no hyphen after them
pub prefix_width-all : (ps : List Piece) → prefix_width (length ps) ps ≡ width ps
prefix_width-all ps =
    ap₂ (λ a b. width a + hyphen_before b) (take_all (length ps) ps (omega arith)) (drop_all (length ps) ps (omega arith)) ∙ (let e : width ps + 0 ≡ width ps = omega arith in e)
