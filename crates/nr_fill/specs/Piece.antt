-- The collected line: its pieces, and the word that is being read. (CSTR 54, section 4; on break points section 13.)
use Prim.Native.Char.{code}
use Rattle.std.specs.Prelude.{ℕ, ◌+◌, ◌-◌, min, Bool, true, false, ◌&&◌, ◌||◌, ◌==◌, not, nat_lt, if◌then◌else◌, List, [], ◌∷◌, ◌++◌, length, take, drop, sum_by, replicate, Option, None, Some, is_none}
use Rattle.std.specs.Option.{option_map}
use Rattle.std.specs.List.{flat_map}
use Rattle.nr_vectors.specs.Cell.{blank}
use Rattle.nr_vectors.specs.declared.cell.Cell.{Cell}
use Rattle.nr_fill.specs.declared.piece.Join.{Join}
use Rattle.nr_fill.specs.declared.piece.Join.TheVariants.{Gap, Soft, Hard}
use Rattle.nr_fill.specs.declared.piece.Point.{Point}
use Rattle.nr_fill.specs.declared.piece.Point.TheVariants as points
use Rattle.nr_fill.specs.declared.piece.CutAfter.{CutAfter}
use Rattle.nr_fill.specs.declared.piece.CutAfter.TheVariants.{Letter, Hyphen, Dash}
use Rattle.nr_settings.specs.declared.indents.Margins.{Margins}
use Rattle.nr_fill.specs.declared.margins.Turn.{Turn}
use Rattle.nr_fill.specs.declared.margins.Turn.TheVariants as turns
use Rattle.nr_fill.specs.declared.stops.Pending.{Pending}
use Rattle.nr_fill.specs.declared.stops.Pending.TheVariants.{Nothing, AtPoint, ForStop}
use Rattle.nr_fill.specs.Title.{Title, title_cells, empty_title, with_cell, next_part}

-- cells that stay together on a line, and how they hang on those before them: by a gap, or at a break point of a word
pub record Piece : Type 0 where
  pub join : Join
  pub cells : List Cell

-- the word that is being read
pub record Word : Type 0 where
  -- its pieces up to its last break point
  pub parts : List Piece
  -- the piece that is being read
  pub last : Piece
  -- a break point that stands after it where one more cell comes, or the stop that its text is for
  pub pending : Pending
  -- how many blanks of the text stand at its end, in one piece or in several
  pub blanks : ℕ

-- what was read and is not set yet
pub record Collected : Type 0 where
  pub pieces : List Piece
  pub word : Option Word
  -- the blanks that wait for the next word
  pub gap : ℕ
  -- `\%` was read in the word, or where the next word begins
  pub barred : Bool
  -- the last cell ends a sentence
  pub sentence : Bool
  -- the line's indent and length
  pub margins : Margins
  -- where the next line that is spread has its wider gaps
  pub turn : Turn
  -- the title that is being read
  pub title : Option Title

abbrev pub no_margins : Margins
no_margins = record { indent = 0; length = 0 }

abbrev pub nothing_collected : Collected
nothing_collected = record {
  pieces = [];
  word = None;
  gap = 0;
  barred = false;
  sentence = false;
  margins = no_margins;
  turn = turns.Left;
  title = None;
}

abbrev pub is_nil : {A : Type 0} → List A → Bool
is_nil [] = true
is_nil (x ∷ xs) = false

-- how many cells these pieces have
abbrev pub cells_in : List Piece → ℕ
cells_in ps = sum_by (λ (p : Piece). length p.cells) ps

-- ---- words

-- a word without cells, after a gap
abbrev pub new_word : ℕ → Word
new_word gap =
    record { parts = []; last = record { join = Gap gap; cells = [] }; pending = Nothing; blanks = 0 }

-- the word that cells go to: a new one takes the gap that waits
abbrev pub word_or_new : ℕ → Option Word → Word
word_or_new gap None = new_word gap
word_or_new gap (Some w) = w

-- nothing is collected: the next word begins the line
abbrev pub begins_line : Collected → Bool
begins_line c = is_nil c.pieces && is_none c.word

-- A word is being read from now on. The first word of a line gives it its margins. Cells that are added take the place of a title.
abbrev pub with_word : Margins → Collected → Collected
with_word margins c =
    record c {
      word = Some (word_or_new c.gap c.word);
      gap = if is_none c.word then 0 else c.gap;
      margins = if begins_line c then margins else c.margins;
      title = None;
    }

-- the word changed, where there is one
abbrev pub in_word : (Word → Word) → Collected → Collected
in_word f c = record c { word = option_map f c.word; title = None }

abbrev pub word_length : Word → ℕ
word_length w = cells_in w.parts + length w.last.cells

-- the cells of the word, one after another
abbrev pub cells_of_word : Word → List Cell
cells_of_word w = flat_map (λ (p : Piece). p.cells) w.parts ++ w.last.cells

-- ---- break points inside a word

abbrev pub join_at : Point → Join
join_at points.Soft = Soft
join_at points.Hard = Hard
join_at points.Joining = Hard

-- a piece ends at a break point
abbrev pub ended_at : Pending → Word → Word
ended_at (AtPoint p) w =
    record w {
      parts = w.parts ++ w.last ∷ [];
      last = record { join = join_at p; cells = [] };
      pending = Nothing;
    }
ended_at pending w = w

abbrev pub ended : Word → Word
ended w = ended_at w.pending w

-- how many cells a mark has at whose end a point may stand
abbrev pub mark_cells : CutAfter → ℕ
mark_cells Letter = 0
mark_cells Hyphen = 1
mark_cells Dash = 2

-- A hard point stands after `-`, `\(hy` and `\(em` where the word, of n cells, has a cell before them. The text for a right or centring stop has none.
abbrev pub pending_after : CutAfter → ℕ → Pending → Pending
pending_after mark n (ForStop f) = ForStop f
pending_after Letter n pending = Nothing
pending_after mark n pending = if nat_lt (mark_cells mark) n then AtPoint points.Hard else Nothing

-- `\%` after one of n cells. Of two points at one place it is soft only where both are.
abbrev pub pending_soft : ℕ → Pending → Pending
pending_soft n Nothing = if nat_lt 0 n then AtPoint points.Soft else Nothing
pending_soft n pending = pending

-- A point by name after one of n cells: of two at one place the later stands. The text for a right or centring stop has none.
abbrev pub pending_named : Point → ℕ → Pending → Pending
pending_named p n (ForStop f) = ForStop f
pending_named p n pending = if nat_lt 0 n then AtPoint p else pending

abbrev pub with_named_point : Point → Word → Word
with_named_point p w = record w { pending = pending_named p (length w.last.cells) w.pending }

abbrev pub with_soft_point : Word → Word
with_soft_point w = record w { pending = pending_soft (length w.last.cells) w.pending }

abbrev pub pending_without_point : Pending → Pending
pending_without_point (ForStop f) = ForStop f
pending_without_point pending = Nothing

abbrev pub is_for_stop : Pending → Bool
is_for_stop (ForStop f) = true
is_for_stop pending = false

-- `\%` turns the points of `.hw` off
abbrev pub barred_here : Collected → Collected
barred_here c = record c { word = option_map with_soft_point c.word; barred = true }

-- a point by name stands here, in the word
abbrev pub pointed_here : Point → Collected → Collected
pointed_here p c = record c { word = option_map (with_named_point p) c.word }

abbrev pub is_joint : Pending → Bool
is_joint (AtPoint points.Joining) = true
is_joint pending = false

-- the word goes on where a text line ends here
abbrev pub ends_in_joint : Option Word → Bool
ends_in_joint None = false
ends_in_joint (Some w) = is_joint w.pending

-- a place so many cells in is between two of n cells, blanks at their end aside, of a piece that takes break points
abbrev pub is_inside : ℕ → ℕ → ℕ → Pending → Bool
is_inside at blanks n pending = nat_lt 0 at && nat_lt (at + blanks) n && not (is_for_stop pending)

-- a soft point at a place, so many cells in, between two cells of the piece that is being read
abbrev pub point_at : ℕ → Word → Word
point_at place w =
    let at = place - cells_in w.parts in
    if is_inside at w.blanks (length w.last.cells) w.pending
    then record w {
      parts = w.parts ++ record { join = w.last.join; cells = take at w.last.cells } ∷ [];
      last = record { join = Soft; cells = drop at w.last.cells };
    }
    else w

-- a point of a `.hw` word
abbrev pub hyphenated : ℕ → Collected → Collected
hyphenated place c = in_word (point_at place) c

-- ---- what is read

-- `.`, `?` or `!`
abbrev pub ends_sentence : Cell → Bool
ends_sentence c = c.byte == code "." || (c.byte == code "?" || c.byte == code "!")

-- more cells of the piece that is being read
abbrev pub append : List Cell → Word → Word
append xs w = record w { last = record w.last { cells = w.last.cells ++ xs }; blanks = 0 }

-- one cell more
abbrev pub add_cell_after : CutAfter → Cell → Word → Word
add_cell_after afterwards x w =
    let longer = append (x ∷ []) w in
    record longer { pending = pending_after afterwards (word_length longer) w.pending }

abbrev pub add_cell : Margins → CutAfter → Cell → Collected → Collected
add_cell margins afterwards x c =
    record (in_word (add_cell_after afterwards x) (in_word ended (with_word margins c)))
    { sentence = ends_sentence x }

-- a blank of the text that is a cell, as others where a break point waits
abbrev pub add_blank_to : Word → Word
add_blank_to w =
    record w { last = record w.last { cells = w.last.cells ++ blank ∷ [] }; blanks = w.blanks + 1 }

abbrev pub add_blank : Margins → Collected → Collected
add_blank margins c = record (in_word add_blank_to (in_word ended (with_word margins c))) { sentence = false }

-- the blanks at the word's end stand before something, and are kept
abbrev pub with_blanks_kept : Word → Word
with_blanks_kept w = record w { blanks = 0 }

-- n cells more, all the same; where there are none a part of the word was read all the same
abbrev pub add_cells : Margins → Cell → ℕ → Collected → Collected
add_cells margins x n c =
    if n == 0 then in_word with_blanks_kept (with_word margins c)
    else record (in_word (append (replicate n x)) (in_word ended (with_word margins c)))
    { sentence = ends_sentence x }

-- `\&` is no cell: no sentence ends before it
abbrev pub marked : Margins → Collected → Collected
marked margins c = record (in_word with_blanks_kept (with_word margins c)) { sentence = false }

-- how the first of these pieces hangs on what is before it, or where there are none the one after them
abbrev pub join_before : List Piece → Join → Join
join_before [] join = join
join_before (p ∷ ps) join = p.join

-- All cells are one piece, which hangs on what is before it as the first piece did. The text for a right or centring stop stays in its piece.
abbrev pub joined_at : Pending → Word → Word
joined_at (ForStop f) w = w
joined_at pending w =
    record w {
      parts = [];
      last = record { join = join_before w.parts w.last.join; cells = cells_of_word w };
      pending = Nothing;
    }

-- the word is one piece: so it is where it ends in a line that is not filled
abbrev pub joined : Collected → Collected
joined c = in_word (λ w. joined_at w.pending w) c

-- without the blanks of the text at its end, and with no break point there
abbrev pub shortened : Word → Word
shortened w = record w {
  last = record w.last { cells = take (length w.last.cells - w.blanks) w.last.cells };
  pending = pending_without_point w.pending;
  blanks = 0;
}

-- a line that is not filled ends: its word is one piece, and the blanks at its end are dropped
abbrev pub without_blanks : Collected → Collected
without_blanks c = in_word shortened (joined c)

-- all pieces of the word
abbrev pub word_pieces : Option Word → List Piece
word_pieces None = []
word_pieces (Some w) = w.parts ++ w.last ∷ []

-- the word is read
abbrev pub end_word : Collected → Collected
end_word c = record c { pieces = c.pieces ++ word_pieces c.word; word = None; barred = false }

-- a gap is at most as wide as the widest line, 1365 cells
abbrev pub one_blank_more : Collected → Collected
one_blank_more c = record c { gap = min 1365 (c.gap + 1); barred = false }

-- the gap that a text line's end leaves
abbrev pub after_newline : Collected → Collected
after_newline c = record c { gap = if c.sentence then 2 else 1; barred = false }

-- ---- the measure

abbrev pub word_cells : Option Word → ℕ
word_cells None = 0
word_cells (Some w) = word_length w

-- 1 and its cells for each piece, and the cells of the word
abbrev pub text_cells : Collected → ℕ
text_cells c = sum_by (λ (p : Piece). 1 + length p.cells) c.pieces + word_cells c.word

-- and those of the title
abbrev pub line_cells : Collected → ℕ
line_cells c = text_cells c + title_cells c.title

-- the points of `.hw` may stand in the word
abbrev pub may_hyphenate : Collected → Bool
may_hyphenate c = not (is_none c.word) && not c.barred

-- the text for a right or centring stop is being read
abbrev pub reads_field : Option Word → Bool
reads_field None = false
reads_field (Some w) = is_for_stop w.pending

-- ---- titles

-- a title begins
abbrev pub with_title : Collected → Collected
with_title c = record c { title = Some empty_title }

abbrev pub with_title_cell : Cell → Collected → Collected
with_title_cell x c = record c { title = option_map (with_cell x) c.title }

abbrev pub with_part_ended : Collected → Collected
with_part_ended c =
    record c { title = option_map (λ (t : Title). record t { part = next_part t.part }) c.title }

abbrev pub without_title : Collected → Collected
without_title c = record c { title = None }
