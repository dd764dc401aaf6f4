-- Blocks that are filled in columns that have their width make none of them wider.
use Rattle.std.proofs.Common.{◌≡◌, ℕ, zero, suc, ◌+◌, ◌-◌, ◌<◌, ◌≤◌, ◌&&◌, min, max, Bool, true, false, nat_lt, List, [], ◌∷◌, ◌++◌, length, drop, get_or, set, slice_range, Option, None, Some, refl, sym, ap, subst, arith, ◌∙◌, length-set, length-append, if◌then◌else◌}
use Rattle.nr_vectors.specs.Items.{Items}
use Rattle.std.proofs.lemmas.Bool.Decides.{nat_tests}
use Rattle.tbl_blocks.specs.declared.blocks.Blocks.{Blocks}
use Rattle.tbl_blocks.specs.declared.parts.Line.{Line}
use Rattle.tbl_blocks.specs.declared.parts.Part.{Part}
use Rattle.tbl_blocks.specs.Blocks.{without_lines}
use Rattle.tbl_blocks.specs.Filling.{lines_of}
use Rattle.tbl_blocks.specs.Lists.{added, added_all}
use Rattle.tbl_columns.specs.declared.grid.Block.{Block}
use Rattle.tbl_columns.specs.declared.grid.Cell.{Cell}
use Rattle.tbl_columns.specs.declared.grid.Column.{Column}
use Rattle.tbl_columns.specs.declared.grid.Grid.{Grid}
use Rattle.tbl_columns.specs.Columns.{beside, is_alpha, is_given, needs, span_width, together, with_column}
use Rattle.tbl_columns.specs.Cells.{columns_over}
use Rattle.tbl_columns.specs.Held.{block_in, cell_of, column, fresh, no_block, no_cell, text}
use Rattle.tbl_columns.specs.Laws.{TextsFit, lines_in}
use Rattle.tbl_columns.specs.Narrow.{least_in, least_of_cell}
use Rattle.tbl_columns.specs.Texts.{filled_cell, filled_in, filled_text, filled_within, lines_from, text_lines, widest_line, with_blocks, with_lines, within_in}
use Rattle.tbl_table.specs.Lists.{in_turn, put}
use Rattle.tbl_table.specs.Sums.{sum}
use Rattle.tbl_columns.proofs.Narrowing.{up_to}
use Rattle.tbl_columns.proofs.Turns.{set_same}

-- ---- one of a list has another thing at its place

put_has : {T : Type 0} (P : T → Type 0) (xs : List T) (i : ℕ) (x d : T) (c : ℕ) → P d → ((c ≡ i → ⊥) → P (get_or xs c d)) → (c ≡ i → P x)
    → P (get_or (set xs i x) c d)
put_has P [] i x d c none other this = none
put_has P (y ∷ ys) zero x d zero none other this = this refl
put_has P (y ∷ ys) zero x d (suc c) none other this = other (λ e. omega (arith, e))
put_has P (y ∷ ys) (suc i) x d zero none other this = other (λ e. omega (arith, e))
put_has P (y ∷ ys) (suc i) x d (suc c) none other this =
    put_has P ys i x d c none (λ e. other (λ f. e (omega (arith, f)))) (λ e. this (ap suc e))

-- ---- lines that are added

widest_end : (xs : List Line) (l : Line) → widest_line (xs ++ l ∷ []) ≡ max (widest_line xs) (sum l.cells l.lack)
widest_end [] l = omega arith
widest_end (x ∷ xs) l =
    let rest : widest_line (xs ++ l ∷ []) ≡ max (widest_line xs) (sum l.cells l.lack) = widest_end xs l in
    omega (arith, rest)

drop_end : (n : ℕ) (xs : List Line) (l : Line) → n ≤ length xs → drop n (xs ++ l ∷ []) ≡ drop n xs ++ l ∷ []
drop_end zero xs l h = refl
drop_end (suc n) [] l h = absurd (omega (arith, h))
drop_end (suc n) (x ∷ xs) l h = drop_end n xs l (omega (arith, h))

-- those from a number on, with one more if there is room
widest_added : (b : Bool) (n limit : ℕ) (xs : List Line) (l : Line) → n ≤ length xs → widest_line (drop n xs) ≤ limit → sum l.cells l.lack ≤ limit
    → widest_line (drop n (if b then xs ++ l ∷ [] else xs)) ≤ limit
widest_added true n limit xs l h old new =
    let is : widest_line (drop n (xs ++ l ∷ [])) ≡ max (widest_line (drop n xs)) (sum l.cells l.lack) =
    ap widest_line (drop_end n xs l h) ∙ widest_end (drop n xs) l in
    omega (arith, is, old, new)
widest_added false n limit xs l h old new = old

long_added : (b : Bool) (n : ℕ) (xs : List Line) (l : Line) → n ≤ length xs → n ≤ length (if b then xs ++ l ∷ [] else xs)
long_added true n xs l h = let long : length (xs ++ l ∷ []) ≡ length xs + 1 = length-append xs (l ∷ []) in omega (arith, h, long)
long_added false n xs l h = h

widest_all : (ls : List Line) (xs : Items Line) (n limit : ℕ) → n ≤ length xs.items → widest_line (drop n xs.items) ≤ limit → widest_line ls ≤ limit
    → widest_line (drop n (added_all ls xs).items) ≤ limit
widest_all [] xs n limit h old new = old
widest_all (l ∷ ls) xs n limit h old new =
    let room : Bool = nat_lt (length xs.items) xs.capacity in
    let first : sum l.cells l.lack ≤ limit = omega (arith, new) in
    let rest : widest_line ls ≤ limit = omega (arith, new) in
    widest_all ls (added l xs) n limit (long_added room n xs.items l h) (widest_added room n limit xs.items l h old first) rest

none_after : (xs : List Line) → widest_line (drop (length xs) xs) ≡ 0
none_after [] = refl
none_after (x ∷ xs) = none_after xs

-- so the lines of a block are no wider than what it is filled in
widest_filled : (b : Block) (width : ℕ) (g : Grid) → widest_line (lines_in width b g) ≤ width
    → widest_line (lines_from (length g.blocks.lines.items) (text_lines b width g)) ≤ width
widest_filled b width g fits =
    let none : widest_line (drop (length g.blocks.lines.items) g.blocks.lines.items) ≡ 0 = none_after g.blocks.lines.items in
    widest_all (lines_in width b g) g.blocks.lines (length g.blocks.lines.items) width (omega arith) (omega (arith, none)) fits

-- ---- columns that are the same

pub together_same : (n : ℕ) (g h : Grid) (first last : ℕ) → h.columns ≡ g.columns → together n h first last ≡ together n g first last
together_same zero g h first last e = refl
together_same (suc n) g h first last e =
    ap (λ (w : ℕ). with_column (nat_lt (first + n) last) w (column h (first + n))) (together_same n g h first last e)
    ∙ ap (λ (cs : Items Column). with_column (nat_lt (first + n) last) (together n g first last) (get_or cs.items (first + n) fresh)) e

-- ---- what a turn leaves

abbrev pub bare_cell : Cell → Cell
bare_cell f = record f { width = 0 }

abbrev pub bare_text : Block → Block
bare_text b = record b { line = 0; line_end = 0; rows = 0 }

abbrev pub bound : Grid → Cell → ℕ
bound k f = max (span_width k f.first f.last) (least_of_cell k f)

abbrev pub IsWithin : Grid → Cell → Type 0
IsWithin k f = is_given f.block ≡ true → needs f ≤ bound k f

pub record Going (k : Grid) (j : ℕ) (u : Grid) : Type 0 where
  pub columns : u.columns ≡ k.columns
  pub table : u.table ≡ k.table
  pub edges : u.edges ≡ k.edges
  pub parts : u.blocks.parts ≡ k.blocks.parts
  pub cell : (i : ℕ) → bare_cell (cell_of u i) ≡ bare_cell (cell_of k i)
  pub text : (i : ℕ) → bare_text (text u i) ≡ bare_text (text k i)
  pub fits : (i : ℕ) → i < j → IsWithin k (cell_of u i)

going_on : (k : Grid) (n : ℕ) (u : Grid) → Going k n u → IsWithin k (cell_of u n) → Going k (suc n) u
going_on k n u s last = record {
  columns = s.columns;
  table = s.table;
  edges = s.edges;
  parts = s.parts;
  cell = s.cell;
  text = s.text;
  fits = up_to n (λ i. IsWithin k (cell_of u i)) s.fits last;
}

abbrev lines_by : Items Part → Block → ℕ → List Line
lines_by ps b width =
    lines_of (min b.first (min b.«end» (length ps.items))) (record { width = width; spread = b.spread })
    (slice_range ps.items (min b.first (min b.«end» (length ps.items))) (min b.«end» (length ps.items)))

lines_same : (k : Grid) (n p width : ℕ) (u : Grid) → Going k n u → lines_in width (text u p) u ≡ lines_in width (text k p) k
lines_same k n p width u s =
    ap (λ (b : Block). lines_by u.blocks.parts b width) (s.text p)
    ∙ ap (λ (ps : Items Part). lines_by ps (bare_text (text k p)) width) s.parts

beside_most : (f : Cell) → beside f ≤ 2
beside_most f = by_alpha (is_alpha f)
  where
    by_alpha : (b : Bool) → (if b then 2 else 0) ≤ 2
    by_alpha true = omega arith
    by_alpha false = omega arith

-- a field whose block is filled in so many cells
abbrev room_of : Cell → Block → Grid → ℕ
room_of f b u = max (span_width u f.first f.last) (sum b.word (beside f)) - beside f

abbrev cell_filled : Cell → Block → ℕ → Grid → Cell
cell_filled f b width u = record f { width = widest_line (lines_from (length u.blocks.lines.items) (text_lines b width u)) }

block_within : (k : Grid) (n p : ℕ) (u : Grid) → TextsFit k → Going k n u → (cell_of u n).block ≡ Some p
    → IsWithin k (cell_filled (cell_of u n) (text u p) (room_of (cell_of u n) (text u p) u) u)
block_within k n p u texts s at given =
    let f : Cell = cell_of u n in
    let b : Block = text u p in
    let width : ℕ = room_of f b u in
    let x : Cell = cell_filled f b width u in
    let word : b.word ≡ (text k p).word = ap (λ (y : Block). y.word) (s.text p) in
    let little : (text k p).word + 2 < 18446744073709551616 = (texts p).0 in
    let few : beside f ≤ 2 = beside_most f in
    let bounded : least_of_cell k x ≡ sum (text k p).word (beside f) = ap (λ (o : Option ℕ). least_in x (block_in k o)) at in
    let span : span_width u f.first f.last ≡ span_width k f.first f.last = together_same (columns_over f.first f.last) k u f.first f.last s.columns in
    let wide : (text k p).word ≤ width = omega (arith, word, few, little) in
    let kept : widest_line (lines_in width (text k p) k) ≤ width = (texts p).1 width wide in
    let fits : widest_line (lines_in width b u) ≤ width =
    subst (λ (ls : List Line). widest_line ls ≤ width) (sym (lines_same k n p width u s)) kept in
    let filled : x.width ≤ width = widest_filled b width u fits in
    omega (arith, filled, word, few, little, bounded, span)

text_filled : (k : Grid) (n p width : ℕ) (u : Grid) → Going k n u → IsWithin k (cell_filled (cell_of u n) (text u p) width u)
    → Going k (suc n) (filled_text n p width u)
text_filled k n p width u s last =
    let f : Cell = cell_of u n in
    let v : Grid = text_lines (text u p) width u in
    let first : ℕ = length u.blocks.lines.items in
    let x : Cell = cell_filled f (text u p) width u in
    record {
      columns = s.columns;
      table = s.table;
      edges = s.edges;
      parts = s.parts;
      cell = λ i. set_same bare_cell u.cells.items n x no_cell refl i ∙ s.cell i;
      text = λ i. set_same bare_text u.texts.items p (with_lines first (text u p) v) no_block refl i ∙ s.text i;
      fits = λ i h. put_has (IsWithin k) u.cells.items n x no_cell i (λ given. absurd (cc))
          (λ other. s.fits i (below_other i n h other)) (λ is. last);
    }
  where
    below_other : (i m : ℕ) → i < suc m → (i ≡ m → ⊥) → i < m
    below_other i m h other = omega (arith, h, other)

filled_step : (k : Grid) (n : ℕ) (u : Grid) → TextsFit k → Going k n u → Going k (suc n) (filled_within n u)
filled_step k n u texts s = by_block (cell_of u n).block refl
  where
    by_block : (o : Option ℕ) → (cell_of u n).block ≡ o → Going k (suc n) (within_in n (cell_of u n) (block_in u o) u)
    by_block None e =
        let none : is_given (cell_of u n).block ≡ false = ap is_given e in
        going_on k n u s (λ given. absurd (cc))
    by_block (Some p) e =
        let width : ℕ = room_of (cell_of u n) (text u p) u in
        subst (λ (o : Option ℕ). Going k (suc n) (filled_in n o width u)) (sym e)
        (text_filled k n p width u s (block_within k n p u texts s e))

pub all_within : (k : Grid) (n : ℕ) (u : Grid) → TextsFit k → Going k 0 u → Going k n (in_turn n filled_within u)
all_within k zero u texts s = s
all_within k (suc n) u texts s = filled_step k n (in_turn n filled_within u) texts (all_within k n u texts s)

pub begun : (k : Grid) → Going k 0 (with_blocks (without_lines k.blocks) k)
begun k = record {
  columns = refl;
  table = refl;
  edges = refl;
  parts = refl;
  cell = λ i. refl;
  text = λ i. refl;
  fits = λ i h. absurd (omega (arith, h));
}
