-- What the slices of a row of pieces hold once a part of it changes.
use Rattle.std.proofs.Common.{◌≡◌, ℕ, ◌+◌, ◌-◌, ◌≤◌, ◌<◌, min, List, [], ◌∷◌, ◌++◌, length, take, drop, replicate, refl, ap, ap₂, sym, ◌∙◌, append_assoc, arith, length-take, length-drop, length-append, zero, suc, get_or}
use Rattle.std.specs.List.{flat_map}
use Rattle.std.proofs.lemmas.List.{take-append-drop, take_all, drop_all, take-take, take-append-le, drop-append-le, drop-drop, drop-take, length-take-le, length-replicate}
use Rattle.std.proofs.lemmas.List.Sums.{sum_by-take-drop, sum_by-take-le, sum_by-cons, sum_by_more_le}
use Rattle.nr_vectors.specs.declared.cell.Cell.{Cell}
use Rattle.nr_fill.specs.declared.piece.Join.{Join}
use Rattle.nr_fill.specs.declared.piece.PieceSlot.{PieceSlot}
use Rattle.nr_fill.specs.Cutting.{join_width, pieces_width}
use Rattle.nr_fill.specs.Laid.{Laid, laid_of, read_cells, IsLaid}
use Rattle.nr_fill.specs.Piece.{Piece, cells_in}
use Rattle.nr_fill.specs.Slots.{blank_slot, pieces_of, cells_in_slots, slots_width}
use Rattle.nr_fill.proofs.PiecesOf.{length-pieces_of, pieces_of-append, pieces_of_push, take-pieces_of, drop-pieces_of, cells_in-pieces_of, pieces_width-pieces_of}

-- the parts of a row's value
pub same_laid : {p p' : List Piece} {l l' t t' : List Cell} {r r' : ℕ} → p ≡ p' → l ≡ l' → t ≡ t' → r ≡ r'
    → ◌≡◌ {A = Laid} (record { pieces = p; last = l; title = t; capacity = r }) (record { pieces = p'; last = l'; title = t'; capacity = r' })
same_laid p_is l_is t_is r_is = rw (p_is, l_is, t_is, r_is) refl

-- ---- lengths

pub length-last : {slots : List PieceSlot} {cells : List Cell} {slot_room cell_room pieced read : ℕ} (room : ℕ) → IsLaid slots cells slot_room cell_room pieced read
    → length (laid_of slots cells pieced read room).last ≡ read - pieced
length-last {cells = cells} {pieced = pieced} {read = read} room h =
    length-take-le (read - pieced) (drop pieced cells) (omega (arith, length-drop pieced cells, h.read_within, h.pieced_within))

pub cells_in-laid_of : {slots : List PieceSlot} {cells : List Cell} {slot_room cell_room pieced read : ℕ} → IsLaid slots cells slot_room cell_room pieced read
    → cells_in (pieces_of slots cells) ≡ pieced
cells_in-laid_of {slots} {cells} h = cells_in-pieces_of slots cells (omega (arith, h.pieced_is, h.read_within, h.pieced_within)) ∙ h.pieced_is

pub read_cells-laid_of : {slots : List PieceSlot} {cells : List Cell} {slot_room cell_room pieced read : ℕ} (room : ℕ) → IsLaid slots cells slot_room cell_room pieced read
    → read_cells (laid_of slots cells pieced read room) ≡ read
read_cells-laid_of room h = let last = length-last room h in let all = cells_in-laid_of h in omega (arith, h.pieced_within)

-- without a title all cells are read
pub all_read : {slots : List PieceSlot} {cells : List Cell} {slot_room cell_room pieced read : ℕ} (room : ℕ) → IsLaid slots cells slot_room cell_room pieced read
    → (laid_of slots cells pieced read room).title ≡ [] → read ≡ length cells
all_read {cells = cells} {read = read} room h none = let long = ap length none in omega (arith, length-drop read cells, h.read_within)

-- ---- what changes

-- the pieces stay where their cells stay
pieces_of-take : (slots : List PieceSlot) (cells : List Cell) (m : ℕ) → cells_in_slots slots ≤ m → m ≤ length cells → pieces_of slots (take m cells) ≡ pieces_of slots cells
pieces_of-take slots cells m h k =
    sym (pieces_of-append slots (take m cells) (drop m cells) (omega (arith, length-take-le m cells k))) ∙ ap (pieces_of slots) (take-append-drop m cells)

-- cells after the last piece go in at a place
pub laid_of_inserted : {slots : List PieceSlot} {cells : List Cell} {slot_room cell_room pieced read : ℕ} (room place n : ℕ) (x : Cell) → IsLaid slots cells slot_room cell_room pieced read
    → read ≡ length cells → pieced + place ≤ read
    → laid_of slots (take (pieced + place) cells ++ replicate n x ++ drop (pieced + place) cells) pieced (read + n) room
    ≡ record (laid_of slots cells pieced read room) { last = take place (laid_of slots cells pieced read room).last ++ replicate n x ++ drop place (laid_of slots cells pieced read room).last }
laid_of_inserted {slots} {cells} {pieced = pieced} {read = read} room place n x h all within =
    let at = pieced + place in
    let prefix = take at cells in
    let R = replicate n x in
    let back = drop at cells in
    let prefix_length : length prefix ≡ at = length-take-le at cells (omega arith) in
    let many = length-replicate n x in
    let afterwards = drop pieced cells in
    let last_is : take (read - pieced) afterwards ≡ afterwards = take_all (read - pieced) afterwards (omega (arith, length-drop pieced cells)) in
    let assoc : prefix ++ R ++ back ≡ prefix ++ (R ++ back) = append_assoc prefix R back in
    let pieces_is : pieces_of slots (prefix ++ R ++ back) ≡ pieces_of slots cells =
    ap (pieces_of slots) assoc ∙ pieces_of-append slots prefix (R ++ back) (omega (arith, h.pieced_is)) ∙ pieces_of-take slots cells at (omega (arith, h.pieced_is)) (omega arith) in
    let dropped : drop pieced (prefix ++ R ++ back) ≡ take place afterwards ++ R ++ drop place afterwards =
    ap (drop pieced) assoc ∙ drop-append-le pieced prefix (R ++ back) (omega arith)
    ∙ ap₂ (λ a b. a ++ (R ++ b)) (drop-take pieced place cells) (sym (drop-drop place pieced cells)) ∙ sym (append_assoc (take place afterwards) R (drop place afterwards)) in
    let long : length (prefix ++ R ++ back) ≡ read + n = omega (arith, length-append (prefix ++ R) back, length-append prefix R, length-drop at cells) in
    let title_is : drop (read + n) (prefix ++ R ++ back) ≡ drop read cells = drop_all (read + n) (prefix ++ R ++ back) (omega arith) ∙ sym (drop_all read cells (omega arith)) in
    same_laid pieces_is
    (take_all (read + n - pieced) (drop pieced (prefix ++ R ++ back)) (omega (arith, length-drop pieced (prefix ++ R ++ back))) ∙ dropped ∙ ap (λ zs. take place zs ++ R ++ drop place zs) (sym last_is))
    title_is refl

-- with n more cells after the last piece
pub is_laid_longer : {slots : List PieceSlot} {cells : List Cell} {slot_room cell_room pieced read : ℕ} (more : List Cell) (n : ℕ) → IsLaid slots cells slot_room cell_room pieced read
    → read ≡ length cells → length more ≡ length cells + n → length cells + n ≤ cell_room → IsLaid slots more slot_room cell_room pieced (read + n)
is_laid_longer more n h all long fits = record {
  pieced_is = h.pieced_is;
  pieced_within = omega (arith, h.pieced_within);
  read_within = omega arith;
  cells_within = omega arith;
  slots_within = h.slots_within;
  same_rooms = h.same_rooms;
  is_small = h.is_small;
}

-- more cells after the last piece
pub laid_of_extended : {slots : List PieceSlot} {cells : List Cell} {slot_room cell_room pieced read : ℕ} (room : ℕ) (xs : List Cell) → IsLaid slots cells slot_room cell_room pieced read
    → read ≡ length cells
    → laid_of slots (cells ++ xs) pieced (read + length xs) room ≡ record (laid_of slots cells pieced read room) { last = (laid_of slots cells pieced read room).last ++ xs }
laid_of_extended {slots} {cells} {pieced = pieced} {read = read} room xs h all =
    let afterwards = drop pieced cells in
    let within = h.pieced_within in
    let last_is : take (read - pieced) afterwards ≡ afterwards = take_all (read - pieced) afterwards (omega (arith, length-drop pieced cells)) in
    let n = length xs in
    let long : length (cells ++ xs) ≡ read + n = omega (arith, length-append cells xs) in
    let dropped : drop pieced (cells ++ xs) ≡ afterwards ++ xs = drop-append-le pieced cells xs (omega arith) in
    same_laid (pieces_of-append slots cells xs (omega (arith, h.pieced_is)))
    (take_all (read + n - pieced) (drop pieced (cells ++ xs)) (omega (arith, length-drop pieced (cells ++ xs))) ∙ dropped ∙ ap (λ zs. zs ++ xs) (sym last_is))
    (drop_all (read + n) (cells ++ xs) (omega arith) ∙ sym (drop_all read cells (omega arith))) refl

-- the cells from a place on are gone
pub laid_of_taken : {slots : List PieceSlot} {cells : List Cell} {slot_room cell_room pieced read : ℕ} (room m : ℕ) → IsLaid slots cells slot_room cell_room pieced read
    → pieced ≤ m → m ≤ read
    → laid_of slots (take m cells) pieced m room
    ≡ record (laid_of slots cells pieced read room) { last = take (m - pieced) (laid_of slots cells pieced read room).last; title = [] }
laid_of_taken {slots} {cells} {pieced = pieced} {read = read} room m h low high =
    let within = h.read_within in
    let part : m ≡ pieced + (m - pieced) = omega arith in
    let dropped : drop pieced (take m cells) ≡ take (m - pieced) (drop pieced cells) = ap (λ k. drop pieced (take k cells)) part ∙ drop-take pieced (m - pieced) cells in
    same_laid (pieces_of-take slots cells m (omega (arith, h.pieced_is)) (omega arith))
    (ap (take (m - pieced)) dropped ∙ take-take (m - pieced) (m - pieced) (drop pieced cells) (omega arith) ∙ sym (take-take (m - pieced) (read - pieced) (drop pieced cells) (omega arith)))
    (drop_all m (take m cells) (omega (arith, length-take m cells))) refl

-- n cells after the last piece are a piece
pub laid_of_closed : {slots : List PieceSlot} {cells : List Cell} {slot_room cell_room pieced read : ℕ} (room : ℕ) (join : Join) (n : ℕ) → IsLaid slots cells slot_room cell_room pieced read
    → n ≤ read - pieced
    → laid_of (slots ++ record { join = join; len = n } ∷ []) cells (pieced + n) read room
    ≡ record (laid_of slots cells pieced read room) {
      pieces = (laid_of slots cells pieced read room).pieces ++ record { join = join; cells = take n (laid_of slots cells pieced read room).last } ∷ [];
      last = drop n (laid_of slots cells pieced read room).last;
    }
laid_of_closed {slots} {cells} {pieced = pieced} {read = read} room join n h within =
    let m = read - (pieced + n) in
    let split : read - pieced ≡ n + m = omega arith in
    let afterwards = drop pieced cells in
    let piece_is : take n (drop (cells_in_slots slots) cells) ≡ take n (take (read - pieced) afterwards) =
    ap (λ k. take n (drop k cells)) h.pieced_is ∙ sym (take-take n (read - pieced) afterwards within) in
    same_laid
    (pieces_of_push slots (record { join = join; len = n }) cells ∙ ap (λ zs. pieces_of slots cells ++ record { join = join; cells = zs } ∷ []) piece_is)
    (ap (take m) (sym (drop-drop n pieced cells)) ∙ sym (drop-take n m afterwards) ∙ ap (λ k. drop n (take k afterwards)) (sym split))
    refl refl

-- one cell more of a title
pub laid_of_titled : {slots : List PieceSlot} {cells : List Cell} {slot_room cell_room pieced read : ℕ} (room : ℕ) (x : Cell) → IsLaid slots cells slot_room cell_room pieced read
    → laid_of slots (cells ++ x ∷ []) pieced read room ≡ record (laid_of slots cells pieced read room) { title = (laid_of slots cells pieced read room).title ++ x ∷ [] }
laid_of_titled {slots} {cells} {pieced = pieced} {read = read} room x h =
    let within = h.pieced_within in
    let some = h.read_within in
    same_laid (pieces_of-append slots cells (x ∷ []) (omega (arith, h.pieced_is)))
    (ap (take (read - pieced)) (drop-append-le pieced cells (x ∷ []) (omega arith)) ∙ take-append-le (read - pieced) (drop pieced cells) (x ∷ []) (omega (arith, length-drop pieced cells)))
    (drop-append-le read cells (x ∷ []) some) refl

-- the first pieces are gone
pub laid_of_removed : {slots : List PieceSlot} {cells : List Cell} {slot_room cell_room pieced read : ℕ} (room n k : ℕ) → IsLaid slots cells slot_room cell_room pieced read
    → k ≡ cells_in_slots (take n slots)
    → laid_of (drop n slots) (drop k cells) (pieced - k) (read - k) room ≡ record (laid_of slots cells pieced read room) { pieces = drop n (laid_of slots cells pieced read room).pieces }
laid_of_removed {slots} {cells} {pieced = pieced} {read = read} room n k h k_is =
    let parts = sum_by-take-drop (λ (s : PieceSlot). s.len) slots n in
    let pieced_is = h.pieced_is in
    let within = h.pieced_within in
    let near : k + (pieced - k) ≡ pieced = omega arith in
    let far : k + (read - k) ≡ read = omega arith in
    let count : (read - k) - (pieced - k) ≡ read - pieced = omega arith in
    same_laid (ap (λ m. pieces_of (drop n slots) (drop m cells)) k_is ∙ sym (drop-pieces_of n slots cells))
    (ap₂ (λ a b. take a b) count (drop-drop (pieced - k) k cells ∙ ap (λ m. drop m cells) near))
    (drop-drop (read - k) k cells ∙ ap (λ m. drop m cells) far) refl

-- ---- the cells of pieces

take_two : (a b : ℕ) (xs : List Cell) → take a xs ++ take b (drop a xs) ≡ take (a + b) xs
take_two zero b xs = ap (λ n. take n xs) (let e : b ≡ 0 + b = omega arith in e)
take_two (suc a) b [] = take_all b [] (omega arith) ∙ sym (take_all (suc a + b) [] (omega arith))
take_two (suc a) b (x ∷ xs) = ap (λ zs. x ∷ zs) (take_two a b xs) ∙ ap (λ n. take n (x ∷ xs)) (let e : suc (a + b) ≡ suc a + b = omega arith in e)

flat_map-pieces_of : (slots : List PieceSlot) (cells : List Cell) → cells_in_slots slots ≤ length cells
    → flat_map (λ (p : Piece). p.cells) (pieces_of slots cells) ≡ take (cells_in_slots slots) cells
flat_map-pieces_of [] cells h = refl
flat_map-pieces_of (slot ∷ slots) cells h =
    let total = sum_by-cons (λ (s : PieceSlot). s.len) slot slots in
    let rest : cells_in_slots slots ≤ length (drop slot.len cells) = omega (arith, length-drop slot.len cells) in
    let more = flat_map-pieces_of slots (drop slot.len cells) rest in
    ap (λ zs. take slot.len cells ++ zs) more ∙ take_two slot.len (cells_in_slots slots) cells ∙ ap (λ n. take n cells) (sym total)

-- the cells after the first pieces, one after another
pub cells_after-laid_of : {slots : List PieceSlot} {cells : List Cell} {slot_room cell_room pieced read : ℕ} (room n parted : ℕ) → IsLaid slots cells slot_room cell_room pieced read
    → cells_in (drop n (pieces_of slots cells)) ≡ parted
    → take (read - (pieced - parted)) (drop (pieced - parted) cells) ≡ flat_map (λ (p : Piece). p.cells) (drop n (pieces_of slots cells)) ++ (laid_of slots cells pieced read room).last
cells_after-laid_of {slots} {cells} {pieced = pieced} {read = read} room n parted h parted_is =
    let parts = sum_by-take-drop (λ (s : PieceSlot). s.len) slots n in
    let pieced_is = h.pieced_is in
    let within = h.pieced_within in
    let some = h.read_within in
    let k = cells_in_slots (take n slots) in
    let rest = drop k cells in
    let slots_is = drop-pieces_of n slots cells in
    let afterwards : cells_in_slots (drop n slots) ≤ length rest = omega (arith, length-drop k cells) in
    let same : parted ≡ cells_in_slots (drop n slots) = sym parted_is ∙ ap cells_in slots_is ∙ cells_in-pieces_of (drop n slots) rest afterwards in
    let start : pieced - parted ≡ k = omega arith in
    let flat : flat_map (λ (p : Piece). p.cells) (drop n (pieces_of slots cells)) ≡ take parted rest =
    ap (flat_map (λ (p : Piece). p.cells)) slots_is ∙ flat_map-pieces_of (drop n slots) rest afterwards ∙ ap (λ m. take m rest) (sym same) in
    let far : k + parted ≡ pieced = omega arith in
    let last_is : take (read - pieced) (drop pieced cells) ≡ take (read - pieced) (drop parted rest) = ap (take (read - pieced)) (ap (λ m. drop m cells) (sym far) ∙ sym (drop-drop parted k cells)) in
    let all : read - k ≡ parted + (read - pieced) = omega arith in
    ap (λ m. take (read - m) (drop m cells)) start ∙ ap (λ m. take m rest) all ∙ sym (take_two parted (read - pieced) rest) ∙ ap₂ (λ a b. a ++ b) (sym flat) (sym last_is)

-- ---- what a row's value tells of its slices

-- there is room for n cells more
pub room_left : {slots : List PieceSlot} {cells : List Cell} {slot_room cell_room pieced read : ℕ} (now : Laid) (n : ℕ) → IsLaid slots cells slot_room cell_room pieced read
    → laid_of slots cells pieced read (min slot_room cell_room) ≡ now → now.title ≡ [] → read_cells now + n ≤ now.capacity
    → (read ≡ length cells) × (length cells + n ≤ cell_room)
room_left {slot_room = slot_room} {cell_room} {read = read} now n h is none within =
    let room = min slot_room cell_room in
    let all = all_read room h (ap (λ (l : Laid). l.title) is ∙ none) in
    let cells_is : read ≡ read_cells now = sym (read_cells-laid_of room h) ∙ ap read_cells is in
    let room_is : room ≡ now.capacity = ap (λ (l : Laid). l.capacity) is in
    (all, omega arith)

-- there is room for one cell more of a title
pub title_room_left : {slots : List PieceSlot} {cells : List Cell} {slot_room cell_room pieced read : ℕ} (now : Laid) → IsLaid slots cells slot_room cell_room pieced read
    → laid_of slots cells pieced read (min slot_room cell_room) ≡ now → read_cells now + length now.title < now.capacity
    → length cells < cell_room
title_room_left {cells = cells} {slot_room} {cell_room} {read = read} now h is within =
    let room = min slot_room cell_room in
    let cells_is : read ≡ read_cells now = sym (read_cells-laid_of room h) ∙ ap read_cells is in
    let title_is : length (drop read cells) ≡ length now.title = ap (λ (l : Laid). length l.title) is in
    let room_is : room ≡ now.capacity = ap (λ (l : Laid). l.capacity) is in
    omega (arith, length-drop read cells, h.read_within)

-- how many cells stand after the last piece
pub last_is : {slots : List PieceSlot} {cells : List Cell} {slot_room cell_room pieced read : ℕ} (now : Laid) (room : ℕ) → IsLaid slots cells slot_room cell_room pieced read
    → laid_of slots cells pieced read room ≡ now → read - pieced ≡ length now.last
last_is now room h is = sym (length-last room h) ∙ ap (λ (l : Laid). length l.last) is

-- as many slots as pieces
pub slots_are : {slots : List PieceSlot} {cells : List Cell} {slot_room cell_room pieced read : ℕ} (now : Laid) (room : ℕ) → IsLaid slots cells slot_room cell_room pieced read
    → laid_of slots cells pieced read room ≡ now → length slots ≡ length now.pieces
slots_are {slots} {cells} now room h is = sym (length-pieces_of slots cells) ∙ ap (λ (l : Laid). length l.pieces) is

-- the first pieces are those of the first slots
pub prefix_is : {slots : List PieceSlot} {cells : List Cell} {slot_room cell_room pieced read : ℕ} (now : Laid) (room n : ℕ) → IsLaid slots cells slot_room cell_room pieced read
    → laid_of slots cells pieced read room ≡ now
    → pieces_of (take n slots) cells ≡ take n now.pieces
prefix_is {slots} {cells} now room n h is = sym (take-pieces_of n slots cells) ∙ ap (λ (l : Laid). take n l.pieces) is

-- and have cells
pub prefix_within : {slots : List PieceSlot} {cells : List Cell} {slot_room cell_room pieced read : ℕ} (n : ℕ) → IsLaid slots cells slot_room cell_room pieced read
    → (cells_in_slots (take n slots) ≤ length cells) × (cells_in_slots (take n slots) ≤ pieced)
prefix_within {slots} n h =
    let part = sum_by-take-le (λ (s : PieceSlot). s.len) slots n in
    let all = h.pieced_is in
    (omega (arith, h.pieced_within, h.read_within), omega arith)

-- how wide they are, and that the first gap is a part of that
pub prefix_widths : {slots : List PieceSlot} {cells : List Cell} {slot_room cell_room pieced read : ℕ} (now : Laid) (room n wide : ℕ) → IsLaid slots cells slot_room cell_room pieced read
    → laid_of slots cells pieced read room ≡ now → 0 < n → n ≤ length now.pieces → pieces_width (take n now.pieces) ≡ wide
    → (slots_width (take n slots) ≡ wide) × (join_width (get_or (take n slots) 0 blank_slot).join ≤ wide)
prefix_widths {slots} {cells} now room n wide h is some within wide_is =
    let all = slots_are now room h is in
    let long = length-take-le n slots (omega arith) in
    let same = pieces_width-pieces_of (take n slots) cells (prefix_within n h).0 in
    let width : slots_width (take n slots) ≡ wide = sym same ∙ ap pieces_width (prefix_is now room n h is) ∙ wide_is in
    let first = sum_by_more_le (λ (s : PieceSlot). join_width s.join + s.len) (take n slots) 0 blank_slot (omega arith) in
    (width, omega arith)

-- the cells of the first pieces
pub prefix_cells : {slots : List PieceSlot} {cells : List Cell} {slot_room cell_room pieced read : ℕ} (now : Laid) (room n k : ℕ) → IsLaid slots cells slot_room cell_room pieced read
    → laid_of slots cells pieced read room ≡ now → k ≡ cells_in (take n now.pieces) → (k ≡ cells_in_slots (take n slots)) × (k ≤ pieced)
prefix_cells {slots} {cells} {pieced = pieced} now room n k h is k_is =
    let within = prefix_within n h in
    let same : k ≡ cells_in_slots (take n slots) = k_is ∙ ap cells_in (sym (prefix_is now room n h is)) ∙ cells_in-pieces_of (take n slots) cells within.0 in
    (same, omega (arith, within.1))

-- a row of pieces without its first ones
pub is_laid_removed : {slots : List PieceSlot} {cells : List Cell} {slot_room cell_room pieced read : ℕ} (n k : ℕ) → IsLaid slots cells slot_room cell_room pieced read
    → k ≡ cells_in_slots (take n slots) → k ≤ pieced → IsLaid (drop n slots) (drop k cells) slot_room cell_room (pieced - k) (read - k)
is_laid_removed {slots} {cells} n k h k_is within =
    let parts = sum_by-take-drop (λ (s : PieceSlot). s.len) slots n in
    let pieced = h.pieced_is in
    record {
      pieced_is = omega arith;
      pieced_within = omega (arith, h.pieced_within);
      read_within = omega (arith, h.read_within, length-drop k cells);
      cells_within = omega (arith, h.cells_within, length-drop k cells);
      slots_within = omega (arith, h.slots_within, length-drop n slots);
      same_rooms = h.same_rooms;
      is_small = h.is_small;
    }

-- ---- pieces without an end

-- the cells of the pieces after the first ones
pub back_cells : {slots : List PieceSlot} {cells : List Cell} {slot_room cell_room pieced read : ℕ} (now : Laid) (room n k : ℕ) → IsLaid slots cells slot_room cell_room pieced read
    → laid_of slots cells pieced read room ≡ now → k ≡ cells_in (drop n now.pieces) → (k ≡ cells_in (drop n (pieces_of slots cells))) × (cells_in_slots (take n slots) + k ≡ pieced)
back_cells {slots} {cells} {pieced = pieced} now room n k h is k_is =
    let same : k ≡ cells_in (drop n (pieces_of slots cells)) = k_is ∙ ap (λ (l : Laid). cells_in (drop n l.pieces)) (sym is) in
    let all = cells_in-laid_of h in
    let parts = sum_by-take-drop (λ (p : Piece). length p.cells) (pieces_of slots cells) n in
    let within = prefix_within n h in
    let first : cells_in (take n (pieces_of slots cells)) ≡ cells_in_slots (take n slots) = ap cells_in (take-pieces_of n slots cells) ∙ cells_in-pieces_of (take n slots) cells within.0 in
    (same, omega arith)

-- a row of pieces of which the last ones have no end
pub is_laid_opened : {slots : List PieceSlot} {cells : List Cell} {slot_room cell_room pieced read : ℕ} (n k : ℕ) → IsLaid slots cells slot_room cell_room pieced read
    → cells_in_slots (take n slots) + k ≡ pieced → IsLaid (take n slots) cells slot_room cell_room (pieced - k) read
is_laid_opened {slots} n k h is = record {
  pieced_is = omega arith;
  pieced_within = omega (arith, h.pieced_within);
  read_within = h.read_within;
  cells_within = h.cells_within;
  slots_within = omega (arith, h.slots_within, length-take n slots);
  same_rooms = h.same_rooms;
  is_small = h.is_small;
}

pub laid_of_opened : {slots : List PieceSlot} {cells : List Cell} {slot_room cell_room pieced read : ℕ} (room n k : ℕ) → IsLaid slots cells slot_room cell_room pieced read
    → k ≡ cells_in (drop n (pieces_of slots cells))
    → laid_of (take n slots) cells (pieced - k) read room
    ≡ record (laid_of slots cells pieced read room) {
      pieces = take n (laid_of slots cells pieced read room).pieces;
      last = flat_map (λ (p : Piece). p.cells) (drop n (laid_of slots cells pieced read room).pieces) ++ (laid_of slots cells pieced read room).last;
    }
laid_of_opened {slots} {cells} room n k h is = same_laid (sym (take-pieces_of n slots cells)) (cells_after-laid_of room n k h (sym is)) refl refl
