-- The longest prefix of the pieces that fits a line.
use Rattle.std.proofs.Common.{◌≡◌, ℕ, ◌+◌, ◌≤◌, ◌<◌, List, [], ◌∷◌, length, take, drop, get_or, zero, suc, refl, ap, arith, true, false, nat_le, inl, inr}
use Rattle.std.proofs.lemmas.Bool.{lt-leb, cases_lt, cases_Bool}
use Rattle.std.proofs.lemmas.List.{length-take-le, get_or-take, take-take, drop_all}
use Rattle.std.proofs.lemmas.List.Sums.{sum_by-take-le, sum_by-cons}
use Rattle.nr_vectors.specs.declared.cell.Cell.{Cell}
use Rattle.nr_fill.specs.declared.piece.PieceSlot.{PieceSlot}
use Rattle.nr_fill.specs.Cutting.{join_width, hyphen_width, hyphen_before, fits, most_that_fit, width, piece_width, prefix_width}
use Rattle.nr_fill.specs.Piece.{Piece}
use Rattle.nr_fill.specs.Slots.{pieces_of, cells_in_slots, slots_width}
use Rattle.nr_fill.proofs.PiecesOf.{take-pieces_of, pieces_width-pieces_of}

-- how many fit where this many do
pub most_that_fit_yes : (line : ℕ) (ps : List Piece) (n k : ℕ) → n ≡ suc k → fits line n ps ≡ true → most_that_fit line ps n ≡ n
most_that_fit_yes line ps n k e h = let yes : fits line (suc k) ps ≡ true = rw (← e) h in rw (e, yes) refl

-- and where they do not
pub most_that_fit_no : (line : ℕ) (ps : List Piece) (n k : ℕ) → n ≡ suc k → fits line n ps ≡ false → most_that_fit line ps n ≡ most_that_fit line ps k
most_that_fit_no line ps n k e h = let no : fits line (suc k) ps ≡ false = rw (← e) h in rw (e, no) refl

-- no more fit than there are
pub most_that_fit-le : (line : ℕ) (ps : List Piece) (n : ℕ) → most_that_fit line ps n ≤ n
most_that_fit-le line ps zero = omega arith
most_that_fit-le line ps (suc n) =
    let fewer = most_that_fit-le line ps n in
    elim (cases_Bool (fits line (suc n) ps)) [ inl here ↦ rw here (omega arith) | inr below ↦ rw below (omega arith) ]

-- none more fits
pub most_that_fit_stays : (line : ℕ) (ps : List Piece) (n k : ℕ) → k ≤ n → ((m : ℕ) → k < m → m ≤ n → fits line m ps ≡ false) → most_that_fit line ps n ≡ most_that_fit line ps k
most_that_fit_stays line ps zero k h none = ap (most_that_fit line ps) (let e : 0 ≡ k = omega arith in e)
most_that_fit_stays line ps (suc n) k h none =
    elim (cases_lt k (suc n)) [
      | inl below ↦ rw (none (suc n) below (omega arith)) (most_that_fit_stays line ps n k (omega arith) (λ m low high. none m low (omega arith)))
      | inr same ↦ ap (most_that_fit line ps) (let e : suc n ≡ k = omega arith in e)
    ]

-- the width of the first pieces
width_prefix_of : (slots : List PieceSlot) (cells : List Cell) (d : PieceSlot) → 0 < length slots → cells_in_slots slots ≤ length cells
    → width (pieces_of slots cells) + join_width (get_or slots 0 d).join ≡ slots_width slots
width_prefix_of [] cells d h k = absurd (omega arith)
width_prefix_of (slot ∷ slots) cells d h k =
    let all = pieces_width-pieces_of (slot ∷ slots) cells k in
    let parts = sum_by-cons piece_width (record { join = slot.join; cells = take slot.len cells }) (pieces_of slots (drop slot.len cells)) in
    omega arith

pub width_prefix : (slots : List PieceSlot) (cells : List Cell) (n : ℕ) (d : PieceSlot) → 0 < n → n ≤ length slots → cells_in_slots slots ≤ length cells
    → width (take n (pieces_of slots cells)) + join_width (get_or slots 0 d).join ≡ slots_width (take n slots)
width_prefix slots cells n d some within h =
    let long = length-take-le n slots within in
    let part = sum_by-take-le (λ (s : PieceSlot). s.len) slots n in
    rw (take-pieces_of n slots cells, ← get_or-take n slots 0 d some) (width_prefix_of (take n slots) cells d (omega arith) (omega arith))

-- the hyphen after the first pieces
pub hyphen_at : (slots : List PieceSlot) (cells : List Cell) (n : ℕ) (d : PieceSlot) → n < length slots → hyphen_before (drop n (pieces_of slots cells)) ≡ hyphen_width (get_or slots n d).join
hyphen_at [] cells n d h = absurd (omega arith)
hyphen_at (slot ∷ slots) cells zero d h = refl
hyphen_at (slot ∷ slots) cells (suc n) d h = hyphen_at slots (drop slot.len cells) n d (omega arith)

pub hyphen_at_end : (ps : List Piece) (n : ℕ) → length ps ≤ n → hyphen_before (drop n ps) ≡ 0
hyphen_at_end ps n h = ap hyphen_before (drop_all n ps h)

-- more pieces are no narrower
wider : (slots : List PieceSlot) (n m : ℕ) → n ≤ m → slots_width (take n slots) ≤ slots_width (take m slots)
wider slots n m h =
    let part = sum_by-take-le (λ (s : PieceSlot). join_width s.join + s.len) (take m slots) n in
    let same = ap slots_width (take-take n m slots h) in
    omega arith

-- once a prefix is too wide none that is longer fits
pub too_wide : (line : ℕ) (slots : List PieceSlot) (cells : List Cell) (n wide : ℕ) (d : PieceSlot) → 0 < n → cells_in_slots slots ≤ length cells
    → wide + join_width (get_or slots 0 d).join ≡ slots_width (take n slots) → line < wide
    → (m : ℕ) → n ≤ m → m ≤ length slots → fits line m (pieces_of slots cells) ≡ false
too_wide line slots cells n wide d some h is far m more within =
    let w = width_prefix slots cells m d (omega arith) within h in
    let grown = wider slots n m more in
    lt-leb _ _ (omega arith)

-- the first pieces fit
pub fits_prefix : (line : ℕ) (slots : List PieceSlot) (cells : List Cell) (n wide hyphen : ℕ) (d : PieceSlot) → 0 < n → n ≤ length slots → cells_in_slots slots ≤ length cells
    → wide + join_width (get_or slots 0 d).join ≡ slots_width (take n slots) → hyphen_before (drop n (pieces_of slots cells)) ≡ hyphen
    → fits line n (pieces_of slots cells) ≡ nat_le (wide + hyphen) line
fits_prefix line slots cells n wide hyphen d some within h is hyphen_is =
    let w = width_prefix slots cells n d some within h in
    ap (λ k. nat_le k line) (let e : prefix_width n (pieces_of slots cells) ≡ wide + hyphen = omega arith in e)
