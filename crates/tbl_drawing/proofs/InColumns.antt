-- Fields are placed in columns that are there, and within their room.
use Rattle.std.proofs.Common.{◌≡◌, ℕ, zero, suc, ◌+◌, ◌-◌, ◌<◌, ◌≤◌, min, ◌&&◌, nat_lt, List, [], ◌∷◌, ◌++◌, length, get_or, refl, ap, subst, arith, ◌∙◌, length-append, length-set, inl, inr, sym, if◌then◌else◌}
use Rattle.std.specs.Prelude.{◌⊎◌}
use Rattle.std.proofs.Math.ListN.{get_or-append}
use Rattle.std.proofs.Math.Seq.{get_or-append_seam}
use Rattle.nr_vectors.specs.Items.{Items}
use Rattle.tbl_columns.specs.declared.grid.Cell.{Cell}
use Rattle.tbl_columns.specs.declared.grid.Column.{Column}
use Rattle.tbl_columns.specs.declared.grid.Grid.{Grid}
use Rattle.tbl_columns.specs.declared.grid.Placed.{Placed}
use Rattle.tbl_columns.specs.Cells.{Placing, Settling, columns_over, ended_above, ended_in, field_given, first_placing, gone_down, gone_on, gone_on_at, goes_on, goes_over, is_across, is_whole, last_of, new_cell, place_of, placed_at, placed_cells, placed_field, placed_in, placed_next, placed_row, placing, settled_cell, settled_row, settling, went_on, went_on_at, went_on_in}
use Rattle.tbl_columns.specs.Held.{cell_number, cell_of, columns, forgotten_cells, no_cell, number_place, placed}
use Rattle.tbl_columns.proofs.Turns.{set_same, turn_has}
use Rattle.tbl_drawing.proofs.Below.{below_by, by_cases, two}
use Rattle.tbl_table.specs.declared.table.Field.{Field}
use Rattle.tbl_table.specs.declared.table.Key.{Key}
use Rattle.tbl_table.specs.declared.table.Line.{Line}
use Rattle.tbl_table.specs.declared.table.Row.{Row}
use Rattle.tbl_table.specs.Held.{key, line, no_field, row}
use Rattle.tbl_table.specs.Lists.{added, added_each, in_turn, put}
use Rattle.tbl_table.specs.Sums.{sum}

-- changes by numbers below another
turn_below : {T : Type 0} (P : T → Type 0) (f : ℕ → T → T) (w : ℕ) → ((n : ℕ) (x : T) → n < w → P x → P (f n x)) → (k : ℕ) → k ≤ w → (x : T)
    → P x → P (in_turn k f x)
turn_below P f w step zero h x p = p
turn_below P f w step (suc k) h x p = step k (in_turn k f x) (omega (arith, h)) (turn_below P f w step k (omega (arith, h)) x p)

-- ---- cells in the first columns, within room for so many

abbrev Fit : ℕ → ℕ → List Cell → Type 0
Fit w room cs =
    (length cs ≤ room)
    × (((n : ℕ) → n < length cs → (get_or cs n no_cell).first < w) × ((n : ℕ) → n < length cs → (get_or cs n no_cell).last < w))

one_fits : (w room : ℕ) (cs : List Cell) (x : Cell) → x.first < w → x.last < w → length cs < room → Fit w room cs → Fit w room (cs ++ x ∷ [])
one_fits w room cs x first last free (few, (firsts, lasts)) =
    let long : length (cs ++ x ∷ []) ≡ length cs + 1 = length-append cs (x ∷ []) in (
      omega (arith, long, free),
      (
        λ n less. at (λ (c : Cell). c.first) first firsts n (two n (length cs) (omega (arith, less, long))),
        λ n less. at (λ (c : Cell). c.last) last lasts n (two n (length cs) (omega (arith, less, long))),
      ),
    )
  where
    at : (K : Cell → ℕ) → K x < w → ((n : ℕ) → n < length cs → K (get_or cs n no_cell) < w) → (n : ℕ) → (n < length cs) ⊎ (n ≡ length cs)
        → K (get_or (cs ++ x ∷ []) n no_cell) < w
    at K here each n (inl less) = subst (λ (c : Cell). K c < w) (sym (get_or-append cs (x ∷ []) no_cell n less)) (each n less)
    at K here each n (inr end) =
        subst (λ (c : Cell). K c < w)
        (sym (ap (λ (k : ℕ). get_or (cs ++ x ∷ []) k no_cell) end ∙ get_or-append_seam cs x [] no_cell)) here

added_fits : (w : ℕ) (x : Cell) (xs : Items Cell) → x.first < w → x.last < w → Fit w xs.capacity xs.items → Fit w xs.capacity (added x xs).items
added_fits w x xs first last fit =
    by_cases (Fit w xs.capacity) (nat_lt (length xs.items) xs.capacity) (xs.items ++ x ∷ []) xs.items
    (λ e. one_fits w xs.capacity xs.items x first last (below_by (length xs.items) xs.capacity e) fit) (λ e. fit)

put_fits : (w room n : ℕ) (x : Cell) (xs : Items Cell) → x.first ≡ (get_or xs.items n no_cell).first → x.last ≡ (get_or xs.items n no_cell).last
    → Fit w room xs.items → Fit w room (put n x xs).items
put_fits w room n x xs first last (few, (firsts, lasts)) =
    let long : length (put n x xs).items ≡ length xs.items = length-set xs.items n x in (
      omega (arith, long, few),
      (
        λ i less. omega (arith, firsts i (omega (arith, less, long)), set_same (λ (c : Cell). c.first) xs.items n x no_cell first i),
        λ i less. omega (arith, lasts i (omega (arith, less, long)), set_same (λ (c : Cell). c.last) xs.items n x no_cell last i),
      ),
    )

-- ---- a table on the way

pub record InColumns (s t : Grid) : Type 0 where
  pub heads : t.columns ≡ s.columns
  pub room : t.cells.capacity ≡ s.cells.capacity
  pub texts : t.texts ≡ s.texts
  pub table : t.table ≡ s.table
  pub fit : Fit (columns s) t.cells.capacity t.cells.items

other_numbers : (s t : Grid) (xs : Items ℕ) → InColumns s t → InColumns s (record t { numbers = xs })
other_numbers s t xs p = record { heads = p.heads; room = p.room; texts = p.texts; table = p.table; fit = p.fit }

other_places : (s t : Grid) (xs : Items Placed) → InColumns s t → InColumns s (record t { placed = xs })
other_places s t xs p = record { heads = p.heads; room = p.room; texts = p.texts; table = p.table; fit = p.fit }

cell_added : (s t : Grid) (x : Cell) (xs : Items ℕ) → x.first < columns s → x.last < columns s → InColumns s t
    → InColumns s (record t { cells = added x t.cells; numbers = xs })
cell_added s t x xs first last p =
    record { heads = p.heads; room = p.room; texts = p.texts; table = p.table; fit = added_fits (columns s) x t.cells first last p.fit }

cell_put : (s t : Grid) (n : ℕ) (x : Cell) → x.first ≡ (cell_of t n).first → x.last ≡ (cell_of t n).last → InColumns s t
    → InColumns s (record t { cells = put n x t.cells })
cell_put s t n x first last p =
    record { heads = p.heads; room = p.room; texts = p.texts; table = p.table; fit = put_fits (columns s) t.cells.capacity n x t.cells first last p.fit }

gone_on_in : (s t : Grid) (r first last : ℕ) → InColumns s t → InColumns s (gone_on r first last t)
gone_on_in s t r first last p =
    turn_has (InColumns s) (λ n. gone_on_at r (first + n))
    (λ n x h. other_numbers s x (added (cell_number x (r - 1) (first + n)) x.numbers) h) (columns_over first last) t p

field_in : (s t : Grid) (r : ℕ) (k : Key) (f : Field) (first last : ℕ) → first < columns s → last < columns s → InColumns s t
    → InColumns s (placed_in r k f first last t)
field_in s t r k f first last low high p =
    by_cases (InColumns s) (nat_lt 0 r && goes_on k f) (gone_on r first last t) (placed_field r k f first last t)
    (λ e. gone_on_in s t r first last p)
    (λ e. cell_added s t (new_cell t r k f first last) (added_each (columns_over first last) (length t.cells.items) t.numbers) low high p)

goes_within : (n : ℕ) (g : Grid) (l : Line) (c w : ℕ) → c + n < w → goes_over n g l c < w
goes_within zero g l c w h = omega (arith, h)
goes_within (suc n) g l c w h =
    let later : goes_over n g l (c + 1) < w = goes_within n g l (c + 1) w (omega (arith, h)) in
    by_cases (λ (k : ℕ). k < w) (is_across (key g.table l (c + 1)).kind) (goes_over n g l (c + 1)) c (λ e. later) (λ e. omega (arith, h))

last_within : (s t : Grid) (r : Row) (c : ℕ) → columns t ≡ columns s → c < columns s → last_of t r c < columns s
last_within s t r c same h = goes_within (columns t - (c + 1)) t (line t.table r.line) c (columns s) (omega (arith, same, h))

placed_at_in : (s : Grid) (n : ℕ) (r : Row) (c : ℕ) (q : Placing) → c < columns s → InColumns s q.grid → InColumns s (placed_at n r c q).grid
placed_at_in s n r c q low p =
    let same : columns q.grid ≡ columns s = ap (λ (xs : Items Column). length xs.items) p.heads in
    let next : Placing = record {
      grid = placed_next n r q.given c (last_of q.grid r c) q.grid;
      given = min (sum q.given 1) r.«end»;
      next = sum (last_of q.grid r c) 1;
    } in
    by_cases (λ (x : Placing). InColumns s x.grid) (nat_lt c q.next) q next (λ e. p)
    (λ e. field_in s q.grid n (key q.grid.table (line q.grid.table r.line) c) (field_given q.grid r q.given) c (last_of q.grid r c) low
    (last_within s q.grid r c same low) p)

went_on_at_in : (s t : Grid) (r cells c : ℕ) → c < columns s → InColumns s t → InColumns s (went_on_at r cells c t)
went_on_at_in s t r cells c low p =
    let f : ℕ = cell_number t r c in
    by_cases (InColumns s) (nat_lt f cells) (went_on_in r c f t) t
    (λ e. by_cases (InColumns s) (is_whole t r f) (gone_down r f t) (ended_above r c t)
    (λ e. cell_put s t f (record (cell_of t f) { bottom = r }) refl refl p)
    (λ e. cell_added s t (new_cell t r (key t.table (line t.table (row t.table r).line) c) no_field c c)
    (put (number_place t r c) (length t.cells.items) t.numbers) low low p))
    (λ e. p)

row_in : (s : Grid) (n : ℕ) (t : Grid) → InColumns s t → InColumns s (placed_row n t)
row_in s n t p =
    let same : columns t ≡ columns s = ap (λ (xs : Items Column). length xs.items) p.heads in
    let r : Row = row t.table n in
    let q : Placing = placing (columns t) n r t in
    let filled : InColumns s q.grid =
    turn_below (λ (x : Placing). InColumns s x.grid) (placed_at n r) (columns s) (λ c x low h. placed_at_in s n r c x low h) (columns t) (omega (arith, same))
    (first_placing r t) p in
    let inner : columns q.grid ≡ columns s = ap (λ (xs : Items Column). length xs.items) filled.heads in
    let u : Grid = went_on n (length t.cells.items) q.grid in
    let on : InColumns s u =
    turn_below (InColumns s) (went_on_at n (length t.cells.items)) (columns s) (λ c x low h. went_on_at_in s x n (length t.cells.items) c low h)
    (columns q.grid) (omega (arith, inner)) q.grid filled in
    other_places s u (added (place_of n (length t.cells.items) q.given u) u.placed) on

pub in_columns : (g : Grid) → InColumns (forgotten_cells g) (placed_cells g)
in_columns g =
    let s : Grid = forgotten_cells g in
    let k : ℕ = length s.table.rows.items in
    let a : Grid = in_turn k placed_row s in
    let first : InColumns s s = record { heads = refl; room = refl; texts = refl; table = refl; fit = (omega arith, (λ n less. absurd (none n less), λ n less. absurd (none n less))) } in
    let p : InColumns s a = turn_has (InColumns s) placed_row (row_in s) k s first in
    let b : Settling = in_turn (length a.placed.items) settled_row (settling a 0) in
    let q : InColumns s b.grid =
    turn_has (λ (x : Settling). InColumns s x.grid) settled_row
    (λ n x h. other_places s x.grid (put n (record (placed x.grid n) { last_own = if (placed x.grid n).own then n else x.last_own }) x.grid.placed) h)
    (length a.placed.items) (settling a 0) p in
    turn_has (InColumns s) settled_cell (λ n x h. cell_put s x n (ended_in x (cell_of x n)) refl refl h) (length b.grid.cells.items) b.grid q
  where
    none : (n : ℕ) → n < 0 → ⊥
    none n less = omega (arith, less)
