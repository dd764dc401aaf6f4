-- Pieces one after another, after them the cells of one that has no end yet, and those of a title.
use Rattle.std.specs.Prelude.{◌≡◌, ℕ, ◌+◌, ◌-◌, ◌≤◌, ◌<◌, ◌^◌, List, length, take, drop}
use Rattle.nr_vectors.specs.declared.cell.Cell.{Cell}
use Rattle.nr_fill.specs.declared.piece.PieceSlot.{PieceSlot}
use Rattle.nr_fill.specs.Piece.{Piece, cells_in}
use Rattle.nr_fill.specs.Slots.{pieces_of, cells_in_slots}

pub record Laid : Type 0 where
  pub pieces : List Piece
  -- the cells after the last piece
  pub last : List Cell
  pub title : List Cell
  -- how many pieces there may be, and how many cells
  pub capacity : ℕ

-- all cells but the title's
abbrev pub read_cells : Laid → ℕ
read_cells l = cells_in l.pieces + length l.last

abbrev pub laid_of : List PieceSlot → List Cell → ℕ → ℕ → ℕ → Laid
laid_of slots cells pieced read capacity = record {
  pieces = pieces_of slots cells;
  last = take (read - pieced) (drop pieced cells);
  title = drop read cells;
  capacity = capacity;
}

-- what is always true of the slices
pub record IsLaid (slots : List PieceSlot) (cells : List Cell)
    (slot_room cell_room pieced read : ℕ) : Type 0 where
  pub pieced_is : cells_in_slots slots ≡ pieced
  pub pieced_within : pieced ≤ read
  pub read_within : read ≤ length cells
  pub cells_within : length cells ≤ cell_room
  pub slots_within : length slots ≤ cell_room
  pub same_rooms : slot_room ≡ cell_room
  pub is_small : cell_room < 2 ^ 32
