-- The bytes of rows.
use Prim.Native.Char.{code}
use Rattle.std.proofs.Common.{◌≡◌, ℕ, zero, suc, ◌+◌, ◌-◌, ◌≤◌, ◌<◌, max, List, [], ◌∷◌, ◌++◌, length, map, take, replicate, true, not, ◌==◌, refl, sym, ap, ◌∙◌, arith, zero-add, add-zero, suc-add, append-nil, append_assoc, inl, inr}
use Rattle.std.specs.List.{filter, flat_map, fold, range_with_len, prefix_len, suffix_len}
use Rattle.std.proofs.Math.Nat.{le-max_left, le-max_right, max-eq_right}
use Rattle.std.proofs.lemmas.Bool.{cases_Bool, eqb-true, cond-true}
use Rattle.std.proofs.lemmas.List.{map-append, take-append-le, length_push, get_or-take, length-take-le, reverse-append}
use Rattle.std.proofs.lemmas.List.Concat.{flat_map-append}
use Rattle.std.proofs.lemmas.List.FromFn.{length-map-range_with_len, get_or-map-range_with_len}
use Rattle.std.proofs.lemmas.List.Sums.{suffix_len_is}
use Rattle.nr_vectors.specs.declared.cell.Cell.{Cell}
use Rattle.nr_page.specs.declared.faces.Faces.{Faces}
use Rattle.nr_page.specs.declared.faces.Faces.TheVariants.{Letters, All}
use Rattle.nr_vectors.specs.declared.cell.Look.{Look}
use Rattle.nr_vectors.specs.declared.cell.Look.TheVariants.{Plain, Under, Bold}
use Rattle.nr_page.specs.Grid.{Placed, blank, is_blank, on_row, cells_at, last_shown, cell_at}
use Rattle.nr_page.specs.PageBytes.{cell_bytes, column_count, trimmed, row_cells, row_bytes, row_count, page_bytes}
use Rattle.nr_page.specs.Page.{Sheet, ShowsSame, Holds}
use Rattle.nr_page.specs.Overlay.{covered, cell_or_blank, IsTrimmed, line_bytes, rows_bytes}
use Rattle.nr_page.proofs.Showing.{last_shown-push, covered_by_blank, covered_by_other}

-- ---- where lines show nothing

-- the columns of the longest of the lines, or so many where that is more
abbrev column_count_from : ℕ → List Placed → ℕ
column_count_from most lines = fold (λ most line. max most (length line.cells)) most lines

most_le-column_count_from : (lines : List Placed) (most : ℕ) → most ≤ column_count_from most lines
most_le-column_count_from [] most = omega arith
most_le-column_count_from (line ∷ lines) most =
    let rest = most_le-column_count_from lines (max most (length line.cells)) in
    let here = le-max_left most (length line.cells) in
    omega arith

past_cells : (cells : List Cell) (column : ℕ) → length cells ≤ column → cell_or_blank cells column ≡ blank
past_cells [] column short = refl
past_cells (cell ∷ cells) zero short = absurd (omega arith)
past_cells (cell ∷ cells) (suc column) short = past_cells cells column (omega arith)

shown-past : (lines : List Placed) (most column : ℕ) → column_count_from most lines ≤ column → filter (λ (cell : Cell). not (is_blank cell)) (cells_at lines column) ≡ []
shown-past [] most column past = refl
shown-past (line ∷ lines) most column past =
    let rest = most_le-column_count_from lines (max most (length line.cells)) in
    let here = le-max_right most (length line.cells) in
    let short : length line.cells ≤ column = omega arith in
    rw (past_cells line.cells column short) (shown-past lines (max most (length line.cells)) column past)

-- what lines of one row show, after the longest of them
cell_at-past : (lines : List Placed) (row column : ℕ) → column_count (on_row lines row) ≤ column → cell_at lines row column ≡ blank
cell_at-past lines row column past = rw (shown-past (on_row lines row) 0 column past) refl

-- ---- trailing blanks

suffix_len-push_blank : (cells : List Cell) (cell : Cell) → is_blank cell ≡ true → suffix_len is_blank (cells ++ cell ∷ []) ≡ 1 + suffix_len is_blank cells
suffix_len-push_blank cells cell h = ap (prefix_len is_blank) (reverse-append cells (cell ∷ [])) ∙ cond-true (is_blank cell) (1 + suffix_len is_blank cells) 0 h

trimmed-push_blank : (cells : List Cell) (cell : Cell) → is_blank cell ≡ true → trimmed (cells ++ cell ∷ []) ≡ trimmed cells
trimmed-push_blank cells cell h =
    let long = length_push cells cell in
    let more = suffix_len-push_blank cells cell h in
    let left : length (cells ++ cell ∷ []) - suffix_len is_blank (cells ++ cell ∷ []) ≡ length cells - suffix_len is_blank cells = omega arith in
    rw left (take-append-le (length cells - suffix_len is_blank cells) cells (cell ∷ []) (omega arith))

pub range_with_len-append : (a n m : ℕ) → range_with_len a (n + m) ≡ range_with_len a n ++ range_with_len (a + n) m
range_with_len-append a zero m = rw (zero-add m, add-zero a)
range_with_len-append a (suc n) m =
    let rest = range_with_len-append (a + 1) n m in
    let far : a + 1 + n ≡ a + suc n = omega arith in
    rw (suc-add n m) (ap (λ l. a ∷ l) (rest ∙ ap (λ b. range_with_len (a + 1) n ++ range_with_len b m) far))

-- columns after the last that shows something
trimmed-columns : (f : ℕ → Cell) (n m : ℕ) → ((column : ℕ) → n ≤ column → f column ≡ blank) → trimmed (map f (range_with_len 0 (n + m))) ≡ trimmed (map f (range_with_len 0 n))
trimmed-columns f n zero nothing = rw (add-zero n) refl
trimmed-columns f n (suc m) nothing =
    let sum : n + suc m ≡ (n + m) + 1 = omega arith in
    let split : map f (range_with_len 0 (n + suc m)) ≡ map f (range_with_len 0 (n + m)) ++ f (n + m) ∷ []
    = ap (λ k. map f (range_with_len 0 k)) sum ∙ ap (map f) (range_with_len-append 0 (n + m) 1) ∙ map-append f (range_with_len 0 (n + m)) (range_with_len (0 + (n + m)) 1)
    ∙ ap (λ k. map f (range_with_len 0 (n + m)) ++ f k ∷ []) (zero-add (n + m)) in
    let last : is_blank (f (n + m)) ≡ true = ap is_blank (nothing (n + m) (omega arith)) in
    ap trimmed split ∙ trimmed-push_blank (map f (range_with_len 0 (n + m))) (f (n + m)) last ∙ trimmed-columns f n m nothing

map-same : (f g : ℕ → Cell) (a n : ℕ) → ((column : ℕ) → f column ≡ g column) → map f (range_with_len a n) ≡ map g (range_with_len a n)
map-same f g a zero same = refl
map-same f g a (suc n) same = rw (same a) (ap (λ cells. g a ∷ cells) (map-same f g (a + 1) n same))

-- what a row shows follows from what shows at each column
pub row_cells-same : (xs ys : List Placed) (row : ℕ) → ShowsSame xs ys → row_cells xs row ≡ row_cells ys row
row_cells-same xs ys row same =
    let n = column_count (on_row xs row) in
    let m = column_count (on_row ys row) in
    let sum : n + m ≡ m + n = omega arith in
    sym (trimmed-columns (cell_at xs row) n m (cell_at-past xs row))
    ∙ ap trimmed (map-same (cell_at xs row) (cell_at ys row) 0 (n + m) (same row))
    ∙ ap (λ k. trimmed (map (cell_at ys row) (range_with_len 0 k))) sum
    ∙ trimmed-columns (cell_at ys row) m n (cell_at-past ys row)

-- a blank is written as a blank, however it looks
blank_bytes : (faces : Faces) (look : Look) (byte : ℕ) → (byte == code " ") ≡ true → cell_bytes faces (record { byte = byte; look = look }) ≡ code " " ∷ []
blank_bytes Letters Plain byte h = rw (eqb-true byte (code " ") h) refl
blank_bytes Letters Under byte h = rw (eqb-true byte (code " ") h) refl
blank_bytes Letters Bold byte h = rw (eqb-true byte (code " ") h) refl
blank_bytes All look byte h = rw (eqb-true byte (code " ") h) refl

module _ (faces : Faces) where
  pub row_bytes-same : (xs ys : List Placed) (row : ℕ) → ShowsSame xs ys → row_bytes faces xs row ≡ row_bytes faces ys row
  row_bytes-same xs ys row same = ap (λ cells. flat_map (cell_bytes faces) cells ++ code "\n" ∷ []) (row_cells-same xs ys row same)

  pub rows_bytes-same : (xs ys : List Placed) (row n : ℕ) → ShowsSame xs ys → rows_bytes faces xs row n ≡ rows_bytes faces ys row n
  rows_bytes-same xs ys row zero same = refl
  rows_bytes-same xs ys row (suc n) same = rw (row_bytes-same xs ys row same) (ap (λ bytes. row_bytes faces ys row ++ bytes) (rows_bytes-same xs ys (row + 1) n same))

  -- the bytes of a page, of whose lines it shows the same
  pub page_bytes_is : (lines : List Placed) (page : Sheet) (rows count : ℕ) → Holds lines page → count ≡ max page.row_count rows → rows_bytes faces page.rows 0 count ≡ page_bytes faces rows lines
  page_bytes_is lines page rows count holds is =
      let reaches = holds.reaches in
      let same : count ≡ max rows (row_count lines) = omega arith in
      rows_bytes-same page.rows lines 0 count holds.shows ∙ ap (rows_bytes faces lines 0) same

  -- ---- a line that is alone on its row

  -- what lines of one row show
  abbrev own_bytes : List Placed → List ℕ
  own_bytes lines = flat_map (cell_bytes faces) (trimmed (map (λ column. last_shown (cells_at lines column)) (range_with_len 0 (column_count lines)))) ++ code "\n" ∷ []

  pub row_bytes-alone : (lines : List Placed) (line : Placed) (row : ℕ) → on_row lines row ≡ line ∷ [] → row_bytes faces lines row ≡ line_bytes faces line.cells
  row_bytes-alone lines line row alone = ap own_bytes alone

  pub row_bytes-none : (lines : List Placed) (row : ℕ) → on_row lines row ≡ [] → row_bytes faces lines row ≡ code "\n" ∷ []
  row_bytes-none lines row none = ap own_bytes none

  cell_bytes-covered : (cell : Cell) → cell_bytes faces (covered blank cell) ≡ cell_bytes faces cell
  cell_bytes-covered cell = elim (cases_Bool (is_blank cell)) [
    | inl yes_blank ↦ ap (cell_bytes faces) (covered_by_blank blank cell yes_blank) ∙ blank_bytes faces Plain (code " ") refl ∙ sym (blank_bytes faces cell.look cell.byte yes_blank)
    | inr other ↦ ap (cell_bytes faces) (covered_by_other blank cell other)
  ]

  is_blank-covered : (cell : Cell) → is_blank (covered blank cell) ≡ is_blank cell
  is_blank-covered cell = elim (cases_Bool (is_blank cell)) [
    | inl yes_blank ↦ ap is_blank (covered_by_blank blank cell yes_blank) ∙ sym yes_blank
    | inr other ↦ ap is_blank (covered_by_other blank cell other)
  ]

  -- cells that are written alike
  flat_map-cell_bytes : (xs ys : List Cell) → length xs ≡ length ys → ((k : ℕ) → k < length xs → cell_bytes faces (cell_or_blank xs k) ≡ cell_bytes faces (cell_or_blank ys k))
      → flat_map (cell_bytes faces) xs ≡ flat_map (cell_bytes faces) ys
  flat_map-cell_bytes [] [] long h = refl
  flat_map-cell_bytes [] (y ∷ ys) long h = absurd (omega arith)
  flat_map-cell_bytes (x ∷ xs) [] long h = absurd (omega arith)
  flat_map-cell_bytes (x ∷ xs) (y ∷ ys) long h =
      let here = h 0 (omega arith) in
      let rest = flat_map-cell_bytes xs ys (omega arith) (λ k less. h (suc k) (omega arith)) in
      rw (here, rest)

  pub line_bytes-trimmed : (cells : List Cell) (size : ℕ) → IsTrimmed cells size → size ≤ length cells → line_bytes faces cells ≡ flat_map (cell_bytes faces) (take size cells) ++ code "\n" ∷ []
  line_bytes-trimmed cells size own short =
      let line : Placed = record { row = 0; cells = cells } in
      let f : ℕ → Cell = λ column. cell_at (line ∷ []) 0 column in
      let count : column_count (line ∷ []) ≡ length cells = max-eq_right {n = 0} {m = length cells} (omega arith) in
      let n = length cells in
      let shown : (column : ℕ) → cell_at (line ∷ []) 0 column ≡ covered blank (cell_or_blank cells column) = λ column. last_shown-push [] (cell_or_blank cells column) in
      let all = map (cell_at (line ∷ []) 0) (range_with_len 0 n) in
      let long : length all ≡ n = length-map-range_with_len (cell_at (line ∷ []) 0) 0 n in
      let at : (k : ℕ) → k < n → cell_or_blank all k ≡ cell_at (line ∷ []) 0 k = λ k less. get_or-map-range_with_len (cell_at (line ∷ []) 0) 0 n k k blank less (zero-add k) in
      let same : (k : ℕ) → k < n → is_blank (cell_or_blank all k) ≡ is_blank (cell_or_blank cells k) = λ k less. ap is_blank (at k less ∙ shown k) ∙ is_blank-covered (cell_or_blank cells k) in
      let blanks : suffix_len is_blank all ≡ length all - size
      = suffix_len_is is_blank all size blank (omega arith)
      (λ k le less. same k (omega arith) ∙ own.blanks k le)
      (λ some. same (size - 1) (omega arith) ∙ own.last some) in
      let left : length all - suffix_len is_blank all ≡ size = omega arith in
      let prefix_length = length-take-le size all (omega arith) in
      let cells_len = length-take-le size cells short in
      let bytes : flat_map (cell_bytes faces) (trimmed all) ≡ flat_map (cell_bytes faces) (take size cells)
      = ap (λ k. flat_map (cell_bytes faces) (take k all)) left
      ∙ flat_map-cell_bytes (take size all) (take size cells) (omega arith)
      (λ k less. let low : k < size = omega arith in
      ap (cell_bytes faces) (get_or-take size all k blank low ∙ at k (omega arith) ∙ shown k)
      ∙ cell_bytes-covered (cell_or_blank cells k)
      ∙ ap (cell_bytes faces) (sym (get_or-take size cells k blank low))) in
      ap (λ k. flat_map (cell_bytes faces) (trimmed (map (cell_at (line ∷ []) 0) (range_with_len 0 k))) ++ code "\n" ∷ []) count
      ∙ ap (λ bs. bs ++ code "\n" ∷ []) bytes

  -- ---- rows after rows

  pub rows_bytes-add : (lines : List Placed) (row n m : ℕ) → rows_bytes faces lines row (n + m) ≡ rows_bytes faces lines row n ++ rows_bytes faces lines (row + n) m
  rows_bytes-add lines row n m =
      ap (flat_map (row_bytes faces lines)) (range_with_len-append row n m)
      ∙ flat_map-append (row_bytes faces lines) (range_with_len row n) (range_with_len (row + n) m)

  -- rows without lines
  pub rows_bytes-none : (lines : List Placed) (row n : ℕ) → ((r : ℕ) → row ≤ r → r < row + n → on_row lines r ≡ []) → rows_bytes faces lines row n ≡ replicate n (code "\n")
  rows_bytes-none lines row zero h = refl
  rows_bytes-none lines row (suc n) h =
      let here = row_bytes-none lines row (h row (omega arith) (omega arith)) in
      let rest = rows_bytes-none lines (row + 1) n (λ r le less. h r (omega arith) (omega arith)) in
      rw (here, rest)

  -- the rows down to the next that has a line
  pub rows_bytes-next : (lines : List Placed) (done number : ℕ) (cells : List Cell) → done ≤ number → ((r : ℕ) → done ≤ r → r < number → on_row lines r ≡ []) → row_bytes faces lines number ≡ line_bytes faces cells
      → rows_bytes faces lines 0 (number + 1) ≡ rows_bytes faces lines 0 done ++ (replicate (number - done) (code "\n") ++ line_bytes faces cells)
  rows_bytes-next lines done number cells le none shown =
      let sum : done + (number - done) ≡ number = omega arith in
      let gap : rows_bytes faces lines done (number - done) ≡ replicate (number - done) (code "\n") = rows_bytes-none lines done (number - done) (λ r from to. none r from (omega arith)) in
      let before : rows_bytes faces lines 0 number ≡ rows_bytes faces lines 0 done ++ replicate (number - done) (code "\n")
      = ap (rows_bytes faces lines 0) (sym sum) ∙ rows_bytes-add lines 0 done (number - done)
      ∙ rw (zero-add done) (ap (λ l. rows_bytes faces lines 0 done ++ l) gap) in
      rows_bytes-add lines 0 number 1
      ∙ rw (zero-add number, append-nil (row_bytes faces lines number), before, shown)
      (append_assoc (rows_bytes faces lines 0 done) (replicate (number - done) (code "\n")) (line_bytes faces cells))

  -- the rows up to a place, and those after it
  pub rows_bytes-prefix : (lines : List Placed) (n all : ℕ) → n ≤ all → rows_bytes faces lines 0 all ≡ rows_bytes faces lines 0 n ++ rows_bytes faces lines n (all - n)
  rows_bytes-prefix lines n all h =
      let sum : n + (all - n) ≡ all = omega arith in
      ap (rows_bytes faces lines 0) (sym sum) ∙ rows_bytes-add lines 0 n (all - n) ∙ rw (zero-add n)
