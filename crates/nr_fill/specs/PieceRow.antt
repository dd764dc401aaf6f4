-- How what is collected lies in a row of pieces.
use Rattle.std.specs.Prelude.{◌≡◌, ℕ, ◌+◌, ◌-◌, ◌≤◌, ◌<◌, ◌^◌, max, Bool, true, List, take, drop, length, All, Option, None, Some, is_none}
use Rattle.nr_vectors.specs.declared.cell.Cell.{Cell}
use Rattle.nr_fill.specs.declared.line.WordState.{WordState}
use Rattle.nr_settings.specs.declared.indents.Margins.{Margins}
use Rattle.nr_fill.specs.declared.margins.Turn.{Turn}
use Rattle.nr_fill.specs.declared.stops.Pending.{Pending}
use Rattle.nr_fill.specs.declared.stops.Pending.TheVariants.{Nothing, AtPoint, ForStop}
use Rattle.nr_fill.specs.declared.title.TitleState.{TitleState}
use Rattle.nr_fill.specs.Cutting.{join_width, pieces_width}
use Rattle.nr_fill.specs.Laid.{Laid, read_cells}
use Rattle.nr_fill.specs.Piece.{Piece, Word, Collected, cells_in}
use Rattle.nr_fill.specs.Titling.{title_of, parted_title}

-- the word whose other pieces stand in the row, and after them the cells of the last
abbrev pub word_of : Option WordState → List Piece → List Cell → Option Word
word_of None ps cells = None
word_of (Some w) ps cells =
    Some (record {
      parts = ps;
      last = record { join = w.join; cells = cells };
      pending = w.pending;
      blanks = w.blanks;
    })

-- what is collected
abbrev pub collected_of : Laid → ℕ → Option WordState → ℕ → Bool → Bool → Margins → Turn
    → Option TitleState → Collected
collected_of row pieces word gap barred sentence margins turn title = record {
  pieces = take pieces row.pieces;
  word = word_of word (drop pieces row.pieces) row.last;
  gap = gap;
  barred = barred;
  sentence = sentence;
  margins = margins;
  turn = turn;
  title = title_of title row.title;
}

-- how many cells have to stand after the last piece of a word whose pieces have `parted` cells: the blanks at its end may stand in these too
abbrev pub cells_needed : Pending → ℕ → ℕ → ℕ
cells_needed Nothing blanks parted = blanks - parted
cells_needed (AtPoint p) blanks parted = max 1 (blanks - parted)
cells_needed (ForStop f) blanks parted = f.before + blanks

-- what is always true of a word's state
pub record IsWord (w : WordState) (ps : List Piece) (cells : List Cell) : Type 0 where
  pub parted_is : cells_in ps ≡ w.parted
  pub wide_is : pieces_width ps ≡ w.wide
  -- a break point has a cell before it
  pub pieces_have_cells : length ps ≤ w.parted
  pub join_within : join_width w.join ≤ 1365
  pub needed : cells_needed w.pending w.blanks w.parted ≤ length cells

-- what is always true of a line's fields
pub record IsLine (row : Laid) (limit pieces wide : ℕ) (word : Option WordState) (gap : ℕ)
    (title : Option TitleState) : Type 0 where
  pub room : row.capacity ≡ limit
  pub is_small : limit < 2 ^ 32
  pub within : pieces + read_cells row + length row.title ≤ limit
  pub pieces_within : pieces ≤ length row.pieces
  pub wide_is : pieces_width (take pieces row.pieces) ≡ wide
  pub gaps_within : All (λ (p : Piece). join_width p.join ≤ 1365) row.pieces
  pub gap_within : gap ≤ 1365
  pub word_is : (w : WordState) → word ≡ Some w → IsWord w (drop pieces row.pieces) row.last
  -- without a word all of the row is the line's
  pub no_word : is_none word ≡ true → (length row.pieces ≡ pieces) × (length row.last ≡ 0)
  pub title_is : (t : TitleState) → title ≡ Some t → parted_title t ≤ length row.title
  pub no_title : is_none title ≡ true → length row.title ≡ 0
