-- Columns are measured, and fields stay where they were placed.
use Rattle.std.proofs.Common.{◌≡◌, ℕ, zero, suc, ◌+◌, ◌-◌, max, min, Bool, true, false, ◌==◌, ◌&&◌, not, nat_le, nat_lt, length, get_or, Option, None, Some, refl, ap, ◌∙◌, length-set, if◌then◌else◌}
use Rattle.nr_vectors.specs.Items.{Items}
use Rattle.tbl_blocks.specs.declared.blocks.Blocks.{Blocks}
use Rattle.tbl_blocks.specs.declared.parts.Seen.{Seen}
use Rattle.tbl_blocks.specs.Blocks.{longest_run, longest_word, without_lines}
use Rattle.tbl_columns.specs.declared.grid.Block.{Block}
use Rattle.tbl_columns.specs.declared.grid.Cell.{Cell}
use Rattle.tbl_columns.specs.declared.grid.Column.{Column}
use Rattle.tbl_columns.specs.declared.grid.Grid.{Grid}
use Rattle.tbl_columns.specs.Cells.{columns_over}
use Rattle.tbl_columns.specs.Columns.{Dealing, beside, dealing, dealt_at, equal_column, is_given, left_for, made_equal, measured, measured_cell, measured_cells, measured_fields, measured_spans, measures, needs, settled_column, settled_columns, span_width, spanned_cell, spans, widened, wider, widest_equal, with_field, with_width}
use Rattle.tbl_columns.specs.Counted.{as_wide}
use Rattle.tbl_columns.specs.Frames.{Laying, laid, laid_at, laid_out, laying, left_edge, table_end}
use Rattle.tbl_columns.specs.Held.{block_of, cell_of, column, columns, no_cell, text}
use Rattle.tbl_columns.specs.Measured.{by_blocks, by_fields, line_shared, measured_columns, measured_part, measured_table, part_filled, part_widened}
use Rattle.tbl_columns.specs.Narrow.{block_counted, blocks_counted, cells_taken, is_too_wide, least, line_kept, lines_kept, long_fields_read, long_read, made_narrow, may_break, narrowed, narrower, taken_from, widest, with_long_fields}
use Rattle.tbl_columns.specs.Shares.{Gaps, Sharing, all_parts, edges_shared, first_sharing, gap_parts, gap_shared, gaps_shared, gaps_so_far, has_no_rest, has_wide, line_room, only_widened, share_in, share_of_gaps, shared_at, shared_column, shared_columns, shared_gap, shared_gaps, some_gaps_shared}
use Rattle.tbl_columns.specs.Texts.{all_filled_within, as_text, block_read_in, blocks_read, counted_cell, fill_width, filled_at, filled_blocks, filled_cell, filled_in, filled_some, filled_text, filled_within, is_pending, lines_from, parts, read_at, read_block, read_words, text_added, text_lines, widest_line, with_blocks, within_in, words_read_in}
use Rattle.tbl_columns.proofs.Turns.{set_same, turn_has}
use Rattle.tbl_drawing.proofs.Below.{by_cases}
use Rattle.tbl_drawing.proofs.TextsStand.{TextsStand, block_stands, filled_stands, words_stand}
use Rattle.tbl_table.specs.Held.{is_block, is_text}
use Rattle.tbl_table.specs.Lists.{in_turn, put}
use Rattle.tbl_table.specs.Sums.{sum}

pub record Keeps (t u : Grid) : Type 0 where
  pub table : u.table ≡ t.table
  pub numbers : u.numbers ≡ t.numbers
  pub placed : u.placed ≡ t.placed
  pub heads : columns u ≡ columns t
  pub count : length u.cells.items ≡ length t.cells.items
  pub tops : (i : ℕ) → (cell_of u i).top ≡ (cell_of t i).top
  pub firsts : (i : ℕ) → (cell_of u i).first ≡ (cell_of t i).first
  pub lasts : (i : ℕ) → (cell_of u i).last ≡ (cell_of t i).last
  pub bottoms : (i : ℕ) → (cell_of u i).bottom ≡ (cell_of t i).bottom
  pub texts : TextsStand t → TextsStand u

pub keeps_itself : (t : Grid) → Keeps t t
keeps_itself t = record {
  table = refl;
  numbers = refl;
  placed = refl;
  heads = refl;
  count = refl;
  tops = λ i. refl;
  firsts = λ i. refl;
  lasts = λ i. refl;
  bottoms = λ i. refl;
  texts = λ stand. stand;
}

pub keeps_then : (a b c : Grid) → Keeps a b → Keeps b c → Keeps a c
keeps_then a b c p q = record {
  table = q.table ∙ p.table;
  numbers = q.numbers ∙ p.numbers;
  placed = q.placed ∙ p.placed;
  heads = q.heads ∙ p.heads;
  count = q.count ∙ p.count;
  tops = λ i. q.tops i ∙ p.tops i;
  firsts = λ i. q.firsts i ∙ p.firsts i;
  lasts = λ i. q.lasts i ∙ p.lasts i;
  bottoms = λ i. q.bottoms i ∙ p.bottoms i;
  texts = λ stand. q.texts (p.texts stand);
}

keeps_turn : (f : ℕ → Grid → Grid) → ((n : ℕ) (x : Grid) → Keeps x (f n x)) → (k : ℕ) (t : Grid) → Keeps t (in_turn k f t)
keeps_turn f each k t = turn_has (Keeps t) f (λ n x h. keeps_then t x (f n x) h (each n x)) k t (keeps_itself t)

-- another column
keeps_put : (c : ℕ) (x : Column) (t : Grid) → Keeps t (record t { columns = put c x t.columns })
keeps_put c x t = record {
  table = refl;
  numbers = refl;
  placed = refl;
  heads = length-set t.columns.items c x;
  count = refl;
  tops = λ i. refl;
  firsts = λ i. refl;
  lasts = λ i. refl;
  bottoms = λ i. refl;
  texts = λ stand. stand;
}

-- another field in its place
keeps_cell : (n : ℕ) (x : Cell) (t : Grid) → x.top ≡ (cell_of t n).top → x.first ≡ (cell_of t n).first
    → x.last ≡ (cell_of t n).last → x.bottom ≡ (cell_of t n).bottom → Keeps t (record t { cells = put n x t.cells })
keeps_cell n x t top first last bottom = record {
  table = refl;
  numbers = refl;
  placed = refl;
  heads = refl;
  count = length-set t.cells.items n x;
  tops = set_same (λ (c : Cell). c.top) t.cells.items n x no_cell top;
  firsts = set_same (λ (c : Cell). c.first) t.cells.items n x no_cell first;
  lasts = set_same (λ (c : Cell). c.last) t.cells.items n x no_cell last;
  bottoms = set_same (λ (c : Cell). c.bottom) t.cells.items n x no_cell bottom;
  texts = λ stand. stand;
}

-- all else may be another
pub keeps_as : (a b c : Grid) → c.table ≡ b.table → c.numbers ≡ b.numbers → c.placed ≡ b.placed → c.columns ≡ b.columns → c.cells ≡ b.cells
    → (TextsStand b → TextsStand c) → Keeps a b → Keeps a c
keeps_as a b c table numbers placed heads cells texts k = record {
  table = table ∙ k.table;
  numbers = numbers ∙ k.numbers;
  placed = placed ∙ k.placed;
  heads = ap (λ (xs : Items Column). length xs.items) heads ∙ k.heads;
  count = ap (λ (xs : Items Cell). length xs.items) cells ∙ k.count;
  tops = λ i. ap (λ (xs : Items Cell). (get_or xs.items i no_cell).top) cells ∙ k.tops i;
  firsts = λ i. ap (λ (xs : Items Cell). (get_or xs.items i no_cell).first) cells ∙ k.firsts i;
  lasts = λ i. ap (λ (xs : Items Cell). (get_or xs.items i no_cell).last) cells ∙ k.lasts i;
  bottoms = λ i. ap (λ (xs : Items Cell). (get_or xs.items i no_cell).bottom) cells ∙ k.bottoms i;
  texts = λ stand. texts (k.texts stand);
}

-- ---- by fields

cell_keeps : (n : ℕ) (t : Grid) → Keeps t (measured_cell n t)
cell_keeps n t =
    let f : Cell = cell_of t n in
    by_cases (Keeps t) (measures f && not (spans f)) (measured f t) t
    (λ e. keeps_put f.first (with_field t f (column t f.first)) t) (λ e. keeps_itself t)

equal_keeps : (width n : ℕ) (t : Grid) → Keeps t (equal_column width n t)
equal_keeps width n t =
    let x : Column = with_width width (column t n) in
    by_cases (Keeps t) (column t n).equal (record t { columns = put n x t.columns }) t (λ e. keeps_put n x t) (λ e. keeps_itself t)

all_equal_keeps : (t : Grid) → Keeps t (made_equal t)
all_equal_keeps t = keeps_turn (equal_column (widest_equal t)) (equal_keeps (widest_equal t)) (columns t) t

dealt_keeps : (whole all last first k : ℕ) (d : Dealing) → Keeps d.grid (in_turn k (λ n. dealt_at whole all last (first + n)) d).grid
dealt_keeps whole all last first k d =
    turn_has (λ (x : Dealing). Keeps d.grid x.grid) (λ n. dealt_at whole all last (first + n))
    (λ n x h.
    keeps_then d.grid x.grid (dealt_at whole all last (first + n) x).grid h
    (keeps_put (first + n) (wider (x.rest - left_for whole all (last - (first + n))) (column x.grid (first + n))) x.grid))
    k d (keeps_itself d.grid)

widened_keeps : (first last width : ℕ) (t : Grid) → Keeps t (widened first last width t)
widened_keeps first last width t =
    let whole : ℕ = width - span_width t first last in
    dealt_keeps whole (columns_over first last) last first (columns_over first last) (dealing t whole)

span_keeps : (n : ℕ) (t : Grid) → Keeps t (spanned_cell n t)
span_keeps n t =
    let f : Cell = cell_of t n in
    by_cases (Keeps t) (measures f && spans f) (widened f.first f.last (needs f) t) t
    (λ e. widened_keeps f.first f.last (needs f) t) (λ e. keeps_itself t)

fields_keep : (t : Grid) → Keeps t (measured_fields t)
fields_keep t =
    keeps_then t (measured_cells t) (settled_columns (measured_cells t)) (keeps_turn measured_cell cell_keeps (length t.cells.items) t)
    (keeps_turn settled_column (λ n x. keeps_put n (as_wide (column x n)) x) (columns (measured_cells t)) (measured_cells t))

by_fields_keeps : (t : Grid) → Keeps t (by_fields t)
by_fields_keeps t =
    let a : Grid = measured_fields t in
    let b : Grid = made_equal a in
    let c : Grid = measured_spans b in
    keeps_then t a (made_equal c) (fields_keep t)
    (keeps_then a b (made_equal c) (all_equal_keeps a)
    (keeps_then b c (made_equal c) (keeps_turn spanned_cell span_keeps (length b.cells.items) b) (all_equal_keeps c)))

places_keep : (t : Grid) → Keeps t (laid_out t)
places_keep t =
    let first : Laying = laying t (sum (left_edge t) t.edges.left) in
    turn_has (λ (l : Laying). Keeps t l.grid) laid_at
    (λ n l h. keeps_then t l.grid (laid_at n l).grid h (keeps_put n (laid l.place (column l.grid n)) l.grid))
    (columns t) first (keeps_itself t)

-- ---- blocks

text_keeps : (b : Blocks) (n first word : ℕ) (seen : Seen) (t : Grid) → (TextsStand t → TextsStand (text_added n first word seen (with_blocks b t)))
    → Keeps t (text_added n first word seen (with_blocks b t))
text_keeps b n first word seen t texts =
    let x : Cell = as_text (length t.texts.items) seen (cell_of t n) in
    keeps_as t (record t { cells = put n x t.cells }) (text_added n first word seen (with_blocks b t)) refl refl refl refl refl texts
    (keeps_cell n x t refl refl refl refl)

read_keeps : (n : ℕ) (t : Grid) → Keeps t (read_at n t)
read_keeps n t =
    let f : Cell = cell_of t n in
    let b : Blocks = block_read_in n f t in
    by_cases (Keeps t) (is_block f.field.form) (read_block n f t) t
    (λ e. text_keeps b n (parts t) (longest_run (min (parts t) (length b.parts.items)) (length b.parts.items) b) b.reading.seen t (block_stands n f t))
    (λ e. keeps_itself t)

pub blocks_read_keeps : (t : Grid) → Keeps t (blocks_read t)
blocks_read_keeps t = keeps_turn read_at read_keeps (length t.cells.items) t

filled_text_keeps : (n place width : ℕ) (t : Grid) → Keeps t (filled_text n place width t)
filled_text_keeps n place width t =
    let u : Grid = text_lines (text t place) width t in
    let v : Grid = filled_text n place width t in
    let x : Cell = record (cell_of t n) { width = widest_line (lines_from (length t.blocks.lines.items) u) } in
    keeps_as t (record t { cells = put n x t.cells }) v refl refl refl refl refl (filled_stands n place width t) (keeps_cell n x t refl refl refl refl)

filled_in_keeps : (n : ℕ) (block : Option ℕ) (width : ℕ) (t : Grid) → Keeps t (filled_in n block width t)
filled_in_keeps n None width t = keeps_itself t
filled_in_keeps n (Some place) width t = filled_text_keeps n place width t

filled_keeps : (n width : ℕ) (t : Grid) → Keeps t (filled_cell n width t)
filled_keeps n width t = filled_in_keeps n (cell_of t n).block (width - beside (cell_of t n)) t

counted_keeps : (n : ℕ) (t : Grid) → Keeps t (counted_cell n t)
counted_keeps n t =
    let f : Cell = cell_of t n in
    let x : Column = with_width (max (column t f.first).width (needs f)) (column t f.first) in
    by_cases (Keeps t) (spans f) (widened f.first f.last (needs f) t) (record t { columns = put f.first x t.columns })
    (λ e. widened_keeps f.first f.last (needs f) t) (λ e. keeps_put f.first x t)

filled_at_keeps : (over wide : Bool) (n : ℕ) (t : Grid) → Keeps t (filled_at over wide n t)
filled_at_keeps over wide n t =
    let u : Grid = filled_cell n (fill_width t (cell_of t n)) t in
    by_cases (Keeps t) (is_pending t (cell_of t n) over wide) (counted_cell n u) t
    (λ e. keeps_then t u (counted_cell n u) (filled_keeps n (fill_width t (cell_of t n)) t) (counted_keeps n u)) (λ e. keeps_itself t)

filled_some_keeps : (over wide : Bool) (t : Grid) → Keeps t (filled_some over wide t)
filled_some_keeps over wide t = keeps_turn (filled_at over wide) (filled_at_keeps over wide) (length t.cells.items) t

filled_blocks_keep : (wide : Bool) (t : Grid) → Keeps t (filled_blocks wide t)
filled_blocks_keep wide t =
    let u : Grid = filled_some false wide t in
    by_cases (Keeps t) (length t.texts.items == 0) t (filled_some true wide u) (λ e. keeps_itself t)
    (λ e. keeps_then t u (filled_some true wide u) (filled_some_keeps false wide t) (filled_some_keeps true wide u))

by_blocks_keeps : (t : Grid) → Keeps t (by_blocks t)
by_blocks_keeps t =
    let a : Grid = filled_blocks false t in
    let b : Grid = made_equal a in
    keeps_then t a (laid_out b) (filled_blocks_keep false t) (keeps_then a b (laid_out b) (all_equal_keeps a) (places_keep b))

-- ---- what is left of the line

shared_at_keeps : (t : Grid) (n : ℕ) (s : Sharing) → Keeps t s.grid → Keeps t (shared_at n s).grid
shared_at_keeps t n s h =
    let share : ℕ = share_in s.left s.rest in
    by_cases (λ (x : Sharing). Keeps t x.grid) ((column s.grid n).wide && nat_lt 0 s.left) (shared_column n share s) s
    (λ e. keeps_then t s.grid (shared_column n share s).grid h
    (keeps_put n (with_width (max (column s.grid n).width share) (column s.grid n)) s.grid))
    (λ e. h)

shared_columns_keep : (t : Grid) → Keeps t (shared_columns t)
shared_columns_keep t =
    turn_has (λ (s : Sharing). Keeps t s.grid) shared_at (shared_at_keeps t) (columns t) (first_sharing t) (keeps_itself t)

gaps_keep : (gaps : ℕ) (alone : Bool) (t : Grid) → Keeps t (gaps_shared gaps (share_of_gaps t) alone t)
gaps_keep gaps alone t =
    turn_has (λ (p : Gaps). Keeps t p.grid) (gap_shared (share_of_gaps t) alone)
    (λ n p h.
    keeps_then t p.grid (gap_shared (share_of_gaps t) alone n p).grid h
    (keeps_put n (shared_gap p.before (gap_parts alone p.before (column p.grid n)) (share_of_gaps t) (column p.grid n)) p.grid))
    gaps (gaps_so_far t (left_edge t)) (keeps_itself t)

some_gaps_keep : (t : Grid) → Keeps t (some_gaps_shared t)
some_gaps_keep t =
    let u : Grid = gaps_shared (columns t - 1) (share_of_gaps t) (all_parts t == 0) t in
    let k : Keeps t u = gaps_keep (columns t - 1) (all_parts t == 0) t in
    by_cases (Keeps t) (has_no_rest t) u (edges_shared (share_of_gaps t) u) (λ e. k)
    (λ e. keeps_as t u (edges_shared (share_of_gaps t) u) refl refl refl refl refl (λ stand. stand) k)

shared_gaps_keep : (t : Grid) → Keeps t (shared_gaps t)
shared_gaps_keep t =
    by_cases (Keeps t) ((all_parts t == 0) && (columns t - 1 == 0)) (only_widened t) (some_gaps_shared t)
    (λ e. keeps_put 0 (with_width (sum (column t 0).width (line_room t - table_end t)) (column t 0)) t) (λ e. some_gaps_keep t)

line_shared_keeps : (t : Grid) → Keeps t (line_shared t)
line_shared_keeps t =
    let u : Grid = shared_columns t in
    by_cases (Keeps t) (has_wide t) (filled_blocks true u) (if t.table.looks.expand then shared_gaps t else t)
    (λ e. keeps_then t u (filled_blocks true u) (shared_columns_keep t) (filled_blocks_keep true u))
    (λ e. by_cases (Keeps t) t.table.looks.expand (shared_gaps t) t (λ f. shared_gaps_keep t) (λ f. keeps_itself t))

pub columns_keep : (t : Grid) → Keeps t (measured_columns t)
columns_keep t =
    let a : Grid = by_fields t in
    let b : Grid = by_blocks a in
    let c : Grid = line_shared b in
    keeps_then t a (laid_out c) (by_fields_keeps t)
    (keeps_then a b (laid_out c) (by_blocks_keeps a) (keeps_then b c (laid_out c) (line_shared_keeps b) (places_keep c)))

-- ---- a narrow table

long_read_keeps : (n : ℕ) (t : Grid) → Keeps t (long_read n t)
long_read_keeps n t =
    let f : Cell = cell_of t n in
    let b : Blocks = words_read_in f t in
    by_cases (Keeps t) (may_break t f) (read_words n f t) t
    (λ e. text_keeps b n (parts t) (longest_word (min (parts t) (length b.parts.items)) (length b.parts.items) b) b.reading.seen t (words_stand n f t))
    (λ e. keeps_itself t)

pub long_fields_keep : (t : Grid) → Keeps t (long_fields_read t)
long_fields_keep t = keeps_turn long_read long_read_keeps (length t.cells.items) t

taken_keeps : (c : Option ℕ) (t : Grid) → Keeps t (taken_from c t)
taken_keeps None t = keeps_itself t
taken_keeps (Some c) t = keeps_put c (narrower (column t c)) t

cells_taken_keep : (n : ℕ) (leasts : ℕ → ℕ) (t : Grid) → Keeps t (cells_taken n leasts t)
cells_taken_keep zero leasts t = keeps_itself t
cells_taken_keep (suc n) leasts t =
    let u : Grid = taken_from (widest t leasts) t in
    keeps_then t u (cells_taken n leasts u) (taken_keeps (widest t leasts) t) (cells_taken_keep n leasts u)

line_kept_keeps : (n : ℕ) (t : Grid) → Keeps t (line_kept n t)
line_kept_keeps n t =
    let f : Cell = cell_of t n in
    let x : Cell = record f { block = None } in
    by_cases (Keeps t) (is_text f.field.form && nat_le (needs f) (span_width t f.first f.last)) (record t { cells = put n x t.cells }) t
    (λ e. keeps_cell n x t refl refl refl refl) (λ e. keeps_itself t)

lines_kept_keep : (t : Grid) → Keeps t (lines_kept t)
lines_kept_keep t = keeps_turn line_kept line_kept_keeps (length t.cells.items) t

within_in_keeps : (n : ℕ) (f : Cell) (b : Option Block) (t : Grid) → Keeps t (within_in n f b t)
within_in_keeps n f None t = keeps_itself t
within_in_keeps n f (Some b) t = filled_keeps n (max (span_width t f.first f.last) (sum b.word (beside f))) t

filled_within_keeps : (t : Grid) → Keeps t (all_filled_within t)
filled_within_keeps t =
    let u : Grid = with_blocks (without_lines t.blocks) t in
    keeps_then t u (all_filled_within t) (keeps_as t t u refl refl refl refl refl (λ stand. stand) (keeps_itself t))
    (keeps_turn filled_within (λ n x. within_in_keeps n (cell_of x n) (block_of x (cell_of x n)) x) (length t.cells.items) u)

block_counted_keeps : (n : ℕ) (t : Grid) → Keeps t (block_counted n t)
block_counted_keeps n t =
    by_cases (Keeps t) (is_given (cell_of t n).block) (counted_cell n t) t (λ e. counted_keeps n t) (λ e. keeps_itself t)

blocks_counted_keep : (t : Grid) → Keeps t (blocks_counted t)
blocks_counted_keep t = keeps_turn block_counted block_counted_keeps (length t.cells.items) t

made_narrow_keeps : (cells : ℕ) (t : Grid) → Keeps t (made_narrow cells t)
made_narrow_keeps cells t =
    let s : Grid = record t { narrowed = true } in
    let a : Grid = with_long_fields t in
    let b : Grid = cells_taken cells (least a) a in
    let c : Grid = lines_kept b in
    let d : Grid = all_filled_within c in
    let e : Grid = blocks_counted d in
    keeps_then t s (laid_out e) (keeps_as t t s refl refl refl refl refl (λ stand. stand) (keeps_itself t))
    (keeps_then s a (laid_out e) (long_fields_keep s)
    (keeps_then a b (laid_out e) (cells_taken_keep cells (least a) a)
    (keeps_then b c (laid_out e) (lines_kept_keep b)
    (keeps_then c d (laid_out e) (filled_within_keeps c) (keeps_then d e (laid_out e) (blocks_counted_keep d) (places_keep e))))))

narrowed_keeps : (t : Grid) → Keeps t (narrowed t)
narrowed_keeps t =
    by_cases (Keeps t) (is_too_wide t) (made_narrow (sum (table_end t) 1 - line_room t) t) t
    (λ e. made_narrow_keeps (sum (table_end t) 1 - line_room t) t) (λ e. keeps_itself t)

pub table_keeps : (t : Grid) → Keeps t (measured_table t)
table_keeps t = keeps_then t (measured_columns t) (measured_table t) (columns_keep t) (narrowed_keeps (measured_columns t))

-- ---- a part of a table that is not the first

part_filled_keeps : (t : Grid) → Keeps t (part_filled t)
part_filled_keeps t =
    let a : Grid = long_fields_read t in
    let b : Grid = lines_kept a in
    keeps_then t a (part_filled t) (long_fields_keep t) (keeps_then a b (part_filled t) (lines_kept_keep a) (filled_within_keeps b))

part_widened_keeps : (t : Grid) → Keeps t (part_widened t)
part_widened_keeps t =
    let a : Grid = by_fields t in
    let b : Grid = filled_blocks false a in
    let c : Grid = filled_blocks true b in
    let d : Grid = made_equal c in
    keeps_then t a (laid_out d) (by_fields_keeps t)
    (keeps_then a b (laid_out d) (filled_blocks_keep false a)
    (keeps_then b c (laid_out d) (filled_blocks_keep true b) (keeps_then c d (laid_out d) (all_equal_keeps c) (places_keep d))))

pub part_keeps : (t : Grid) → Keeps t (measured_part t)
part_keeps t =
    by_cases (Keeps t) t.narrowed (part_filled t) (part_widened t) (λ e. part_filled_keeps t) (λ e. part_widened_keeps t)
