-- What lines show at a place, line by line.
use Rattle.std.proofs.Common.{◌≡◌, ◌≢◌, ℕ, zero, suc, ◌+◌, ◌<◌, max, List, [], ◌∷◌, ◌++◌, length, Bool, true, false, cond, not, ◌==◌, Option, None, Some, unwrap_or, inl, inr, refl, sym, ap, ◌∙◌, arith, append-nil, eq-eqb, ne_eqb}
use Rattle.std.specs.Prelude.{slice_index_or}
use Rattle.std.proofs.lemmas.Bool.{cases_Bool, cases_eq}
use Rattle.std.proofs.lemmas.List.{map-append}
use Rattle.std.proofs.lemmas.List.Elements.{filter-append}
use Rattle.std.proofs.lemmas.List.Sums.{fold_push, sum_by_push}
use Rattle.std.specs.List.{filter, last_or}
use Rattle.nr_vectors.specs.declared.cell.Cell.{Cell}
use Rattle.nr_page.specs.Grid.{Placed, blank, is_blank, on_row, cells_at, last_shown, cell_at, page_charge}
use Rattle.nr_page.specs.PageBytes.{row_count}
use Rattle.nr_page.specs.Page.{Sheet, ShowsSame, Holds}
use Rattle.nr_page.specs.Overlay.{covered, overlaid, cell_or_blank}

pub last_or-push : {A : Type 0} (o : Option A) (xs : List A) (y : A) → last_or o (xs ++ y ∷ []) ≡ Some y
last_or-push o [] y = refl
last_or-push o (x ∷ xs) y = last_or-push (Some x) xs y

shown_with : (b : Bool) (xs : List Cell) (c : Cell) → unwrap_or (last_or None (xs ++ cond b (c ∷ []) [])) blank ≡ cond b c (unwrap_or (last_or None xs) blank)
shown_with true xs c = ap (λ o. unwrap_or o blank) (last_or-push None xs c)
shown_with false xs c = ap (λ ys. unwrap_or (last_or None ys) blank) (append-nil xs)

pub last_shown-push : (cells : List Cell) (cell : Cell) → last_shown (cells ++ cell ∷ []) ≡ covered (last_shown cells) cell
last_shown-push cells cell =
    ap (λ ys. unwrap_or (last_or None ys) blank) (filter-append (λ (c : Cell). not (is_blank c)) cells (cell ∷ []))
    ∙ shown_with (not (is_blank cell)) (filter (λ (c : Cell). not (is_blank c)) cells) cell

-- a line more on the row
pub cell_at-push : (lines : List Placed) (line : Placed) (row column : ℕ) → line.row ≡ row
    → cell_at (lines ++ line ∷ []) row column ≡ covered (cell_at lines row column) (cell_or_blank line.cells column)
cell_at-push lines line row column is =
    let more : on_row (lines ++ line ∷ []) row ≡ on_row lines row ++ line ∷ []
    = filter-append (λ (l : Placed). l.row == row) lines (line ∷ []) ∙ rw (eq-eqb line.row row is) in
    ap (λ ls. last_shown (cells_at ls column)) more
    ∙ ap last_shown (map-append (λ (l : Placed). cell_or_blank l.cells column) (on_row lines row) (line ∷ []))
    ∙ last_shown-push (cells_at (on_row lines row) column) (cell_or_blank line.cells column)

-- a line more on another row
pub on_row-push_other : (lines : List Placed) (line : Placed) (row : ℕ) → line.row ≢ row → on_row (lines ++ line ∷ []) row ≡ on_row lines row
on_row-push_other lines line row other =
    filter-append (λ (l : Placed). l.row == row) lines (line ∷ []) ∙ rw (ne_eqb line.row row other) (append-nil (on_row lines row))

pub cell_at-push_other : (lines : List Placed) (line : Placed) (row column : ℕ) → line.row ≢ row → cell_at (lines ++ line ∷ []) row column ≡ cell_at lines row column
cell_at-push_other lines line row column other = ap (λ ls. last_shown (cells_at ls column)) (on_row-push_other lines line row other)

-- ---- a line over lines that show the same

pub ShowsSame-push : (xs ys : List Placed) (line : Placed) → ShowsSame xs ys → ShowsSame (xs ++ line ∷ []) (ys ++ line ∷ [])
ShowsSame-push xs ys line same = λ row column. elim (cases_eq line.row row) [
  | inl is ↦ cell_at-push xs line row column is ∙ ap (λ cell. covered cell (cell_or_blank line.cells column)) (same row column) ∙ sym (cell_at-push ys line row column is)
  | inr other ↦ cell_at-push_other xs line row column other ∙ same row column ∙ sym (cell_at-push_other ys line row column other)
]

pub ShowsSame-trans : (xs ys zs : List Placed) → ShowsSame xs ys → ShowsSame ys zs → ShowsSame xs zs
ShowsSame-trans xs ys zs first second = λ row column. first row column ∙ second row column

pub row_count-push : (lines : List Placed) (line : Placed) → row_count (lines ++ line ∷ []) ≡ max (row_count lines) (line.row + 1)
row_count-push lines line = fold_push (λ (most : ℕ) (l : Placed). max most (l.row + 1)) 0 lines line

pub page_charge-push : (lines : List Placed) (line : Placed) → page_charge (lines ++ line ∷ []) ≡ page_charge lines + (1 + length line.cells)
page_charge-push lines line = sum_by_push (λ (l : Placed). 1 + length l.cells) lines line

-- one line more
pub Holds-push : (lines rows : List Placed) (line : Placed) (page : Sheet) (row_count charge limit : ℕ) → Holds lines page → ShowsSame rows (page.rows ++ line ∷ [])
    → row_count ≡ max page.row_count (line.row + 1) → charge ≡ page.charge + (1 + length line.cells)
    → Holds (lines ++ line ∷ []) (record { rows = rows; row_count = row_count; charge = charge; limit = limit })
Holds-push lines rows line page row_count charge limit holds shows reaches charged = record {
  shows = ShowsSame-trans rows (page.rows ++ line ∷ []) (lines ++ line ∷ []) shows (ShowsSame-push page.rows lines line holds.shows);
  reaches = reaches ∙ ap (λ n. max n (line.row + 1)) holds.reaches ∙ sym (row_count-push lines line);
  charged = charged ∙ ap (λ n. n + (1 + length line.cells)) holds.charged ∙ sym (page_charge-push lines line);
}

-- ---- cells over cells

-- a blank hides nothing, and another cell hides all
pub covered_by_blank : (below above : Cell) → is_blank above ≡ true → covered below above ≡ below
covered_by_blank below above h = rw h

pub covered_by_other : (below above : Cell) → is_blank above ≡ false → covered below above ≡ above
covered_by_other below above h = rw h

pub covered-covered : (a b c : Cell) → covered a (covered b c) ≡ covered (covered a b) c
covered-covered a b c = elim (cases_Bool (is_blank c)) [
  | inl yes_blank ↦ ap (covered a) (covered_by_blank b c yes_blank) ∙ sym (covered_by_blank (covered a b) c yes_blank)
  | inr other ↦ ap (covered a) (covered_by_other b c other) ∙ covered_by_other a c other ∙ sym (covered_by_other (covered a b) c other)
]

-- what cells show that were laid over others
pub covered-overlaid : (below above : List Cell) (column : ℕ)
    → covered blank (cell_or_blank (overlaid below above) column) ≡ covered (covered blank (cell_or_blank below column)) (cell_or_blank above column)
covered-overlaid [] above column = refl
covered-overlaid (cell ∷ below) [] column = refl
covered-overlaid (cell ∷ below) (over ∷ above) zero = covered-covered blank cell over
covered-overlaid (cell ∷ below) (over ∷ above) (suc column) = covered-overlaid below above column

-- ---- one row among others

-- no line is on the row
abbrev pub HasNone : List Placed → ℕ → Type 0
HasNone lines row = (k : ℕ) (d : Placed) → k < length lines → (slice_index_or lines k d).row ≢ row

pub on_row-none : (lines : List Placed) (row : ℕ) → HasNone lines row → on_row lines row ≡ []
on_row-none [] row h = refl
on_row-none (line ∷ lines) row h =
    rw (ne_eqb line.row row (h 0 line (omega arith))) (on_row-none lines row (λ k d less. h (suc k) d (omega arith)))

-- a line alone on its row
pub on_row-alone : (above : List Placed) (line : Placed) (below : List Placed) (row : ℕ) → line.row ≡ row → HasNone above row → HasNone below row
    → on_row (above ++ line ∷ below) row ≡ line ∷ []
on_row-alone above line below row is none_above none_below =
    filter-append (λ (l : Placed). l.row == row) above (line ∷ below)
    ∙ rw (eq-eqb line.row row is, on_row-none above row none_above, on_row-none below row none_below) refl

-- a line on another row
pub on_row-other : (above : List Placed) (line : Placed) (below : List Placed) (row : ℕ) → line.row ≢ row → on_row (above ++ line ∷ below) row ≡ on_row above row ++ on_row below row
on_row-other above line below row other =
    filter-append (λ (l : Placed). l.row == row) above (line ∷ below) ∙ rw (ne_eqb line.row row other) refl

-- what a line shows that is alone on its row
pub cell_at-alone : (above : List Placed) (line : Placed) (below : List Placed) (row column : ℕ) → line.row ≡ row → HasNone above row → HasNone below row
    → cell_at (above ++ line ∷ below) row column ≡ covered blank (cell_or_blank line.cells column)
cell_at-alone above line below row column is none_above none_below =
    ap (λ ls. last_shown (cells_at ls column)) (on_row-alone above line below row is none_above none_below)
    ∙ last_shown-push [] (cell_or_blank line.cells column)

-- ---- rows with one row changed

-- a row that wasn't there yet
pub ShowsSame-insert : (above below : List Placed) (line : Placed) → HasNone above line.row → HasNone below line.row
    → ShowsSame (above ++ line ∷ below) ((above ++ below) ++ line ∷ [])
ShowsSame-insert above below line none_above none_below = λ row column. elim (cases_eq line.row row) [
  | inl is ↦
      let none : on_row (above ++ below) row ≡ []
      = filter-append (λ (l : Placed). l.row == row) above below ∙ rw (← is, on_row-none above line.row none_above, on_row-none below line.row none_below) refl in
      let shown : cell_at (above ++ below) row column ≡ blank = ap (λ ls. last_shown (cells_at ls column)) none in
      cell_at-alone above line below row column is (rw is at none_above) (rw is at none_below)
      ∙ sym (cell_at-push (above ++ below) line row column is ∙ ap (λ cell. covered cell (cell_or_blank line.cells column)) shown)
  | inr other ↦
      ap (λ ls. last_shown (cells_at ls column)) (on_row-other above line below row other ∙ sym (filter-append (λ (l : Placed). l.row == row) above below))
      ∙ sym (cell_at-push_other (above ++ below) line row column other)
]

-- a row with cells laid over its own
pub ShowsSame-overlaid : (above below : List Placed) (line : Placed) (cells : List Cell) → HasNone above line.row → HasNone below line.row
    → ShowsSame (above ++ (record { row = line.row; cells = overlaid line.cells cells }) ∷ below) ((above ++ line ∷ below) ++ (record { row = line.row; cells = cells }) ∷ [])
ShowsSame-overlaid above below line cells none_above none_below = λ row column.
    let laid : Placed = record { row = line.row; cells = overlaid line.cells cells } in
    let over : Placed = record { row = line.row; cells = cells } in
    elim (cases_eq line.row row) [
      | inl is ↦
          cell_at-alone above laid below row column is (rw is at none_above) (rw is at none_below)
          ∙ covered-overlaid line.cells cells column
          ∙ sym (cell_at-push (above ++ line ∷ below) over row column is
          ∙ ap (λ cell. covered cell (cell_or_blank cells column)) (cell_at-alone above line below row column is (rw is at none_above) (rw is at none_below)))
      | inr other ↦
          ap (λ ls. last_shown (cells_at ls column)) (on_row-other above laid below row other ∙ sym (on_row-other above line below row other))
          ∙ sym (cell_at-push_other (above ++ line ∷ below) over row column other)
    ]
