-- How pieces lie in a row of cells and a row of slots.
use Rattle.std.specs.Prelude.{ℕ, ◌+◌, List, [], ◌∷◌, take, drop, sum_by, count_by}
use Rattle.nr_vectors.specs.declared.cell.Cell.{Cell}
use Rattle.nr_fill.specs.declared.piece.PieceSlot.{PieceSlot}
use Rattle.nr_fill.specs.declared.piece.Join.TheVariants.{Gap}
use Rattle.nr_fill.specs.Piece.{Piece}
use Rattle.nr_fill.specs.Cutting.{join_width}
use Rattle.nr_fill.specs.Spreading.{is_gap}

-- a slot before it is used
abbrev pub blank_slot : PieceSlot
blank_slot = record { join = Gap 0; len = 0 }

-- how many cells these pieces have
abbrev pub cells_in_slots : List PieceSlot → ℕ
cells_in_slots slots = sum_by (λ (slot : PieceSlot). slot.len) slots

-- the pieces that these slots cut off the cells, one after another
abbrev pub pieces_of : List PieceSlot → List Cell → List Piece
pieces_of [] cells = []
pieces_of (slot ∷ slots) cells =
    record { join = slot.join; cells = take slot.len cells } ∷ pieces_of slots (drop slot.len cells)

-- how wide these pieces are with their gaps
abbrev pub slots_width : List PieceSlot → ℕ
slots_width slots = sum_by (λ (slot : PieceSlot). join_width slot.join + slot.len) slots

-- how many of them but the first hang on a gap
abbrev pub gap_slots : List PieceSlot → ℕ
gap_slots [] = 0
gap_slots (slot ∷ slots) = count_by (λ (s : PieceSlot). is_gap s.join) slots
