-- Rows are placed one after the other: each field begins in the first column of its first row, which takes room.
use Rattle.std.proofs.Common.{◌≡◌, ℕ, zero, suc, ◌+◌, ◌-◌, ◌*◌, ◌<◌, ◌≤◌, min, true, nat_lt, List, [], ◌∷◌, ◌++◌, length, get_or, refl, sym, ap, subst, arith, ◌∙◌, length-append, length-set, inl, inr, if◌then◌else◌}
use Rattle.std.proofs.Math.ListN.{get_or-append}
use Rattle.std.proofs.Math.Seq.{get_or-append_seam}
use Rattle.std.proofs.lemmas.List.{get_or_past}
use Rattle.nr_vectors.specs.Items.{Items}
use Rattle.tbl_columns.specs.declared.grid.Cell.{Cell}
use Rattle.tbl_columns.specs.declared.grid.Column.{Column}
use Rattle.tbl_columns.specs.declared.grid.Grid.{Grid}
use Rattle.tbl_columns.specs.declared.grid.Placed.{Placed}
use Rattle.tbl_columns.specs.Cells.{Placing, Settling, ended_in, place_of, placed_cells, placed_row, placing, settled_cell, settled_row, settling, went_on, went_on_at}
use Rattle.tbl_columns.specs.Held.{cell_of, columns, forgotten_cells, no_cell, no_place, placed}
use Rattle.tbl_columns.proofs.Turns.{if_true, set_same, turn_has}
use Rattle.tbl_drawing.proofs.Below.{below_by, below_is, below_or, by_cases, not_below_by}
use Rattle.tbl_drawing.proofs.RowJudged.{judged}
use Rattle.tbl_drawing.proofs.RowPlaced.{HasRoom, Mine, Partly, Starts, entry, most, row_filled}
use Rattle.tbl_table.specs.declared.table.Row.{Row}
use Rattle.tbl_table.specs.Held.{row}
use Rattle.tbl_table.specs.Lists.{added, in_turn, put}

-- ---- rows that are placed

abbrev pub Begins : ℕ → ℕ → Grid → ℕ → Type 0
Begins w k t f =
    ((cell_of t f).top < k) × ((cell_of t f).first < w) × (entry t.numbers ((cell_of t f).top * w + (cell_of t f).first) ≡ f)
    × ((placed t (cell_of t f).top).own ≡ true)

-- of a row for which there was no room it is known as if it took room; where there was, its fields have numbers in its range
abbrev pub InRange : Grid → ℕ → Type 0
InRange t f = ((placed t (cell_of t f).top).cells ≤ f) × (f < (placed t (cell_of t f).top).cells_end)

pub record RowsPlaced (s : Grid) (k : ℕ) (t : Grid) : Type 0 where
  pub heads : t.columns ≡ s.columns
  pub table : t.table ≡ s.table
  pub places : t.placed.capacity ≡ s.placed.capacity
  pub count : length t.placed.items ≡ min k t.placed.capacity
  pub room : t.numbers.capacity ≡ s.numbers.capacity
  pub grid : length t.numbers.items ≡ k * columns s
  pub begins : (f : ℕ) → f < length t.cells.items → Begins (columns s) k t f
  pub ranges : (f : ℕ) → f < length t.cells.items → (cell_of t f).top < t.placed.capacity → InRange t f

within_by : (w r c d : ℕ) → c < w → r * w + c < (r + 1 + d) * w
within_by w r c d inside = omega (arith, inside)

pub within : (w k r c : ℕ) → r < k → c < w → r * w + c < k * w
within w k r c less inside =
    let e : r + 1 + (k - (r + 1)) ≡ k = omega (arith, less) in
    subst (λ (n : ℕ). r * w + c < n * w) e (within_by w r c (k - (r + 1)) inside)

up_by : (w k d : ℕ) → k * w + w ≤ (k + 1 + d) * w
up_by w k d = omega arith

pub up_to : (w k n : ℕ) → k < n → k * w + w ≤ n * w
up_to w k n less =
    let e : k + 1 + (n - (k + 1)) ≡ n = omega (arith, less) in
    subst (λ (m : ℕ). k * w + w ≤ m * w) e (up_by w k (n - (k + 1)))

-- ---- one more place, if there is room for it

place_before : (x : Placed) (xs : Items Placed) (r k : ℕ) → length xs.items ≡ min k xs.capacity → r < k
    → get_or (added x xs).items r no_place ≡ get_or xs.items r no_place
place_before x xs r k count less =
    by_cases (λ (ps : List Placed). get_or ps r no_place ≡ get_or xs.items r no_place) (nat_lt (length xs.items) xs.capacity) (xs.items ++ x ∷ []) xs.items
    (λ e. let room : length xs.items < xs.capacity = below_by (length xs.items) xs.capacity e in
    get_or-append xs.items (x ∷ []) no_place r (omega (arith, room, count, less)))
    (λ e. refl)

place_last : (x : Placed) (xs : Items Placed) (k : ℕ) → length xs.items ≡ min k xs.capacity → x.own ≡ true
    → (get_or (added x xs).items k no_place).own ≡ true
place_last x xs k count own =
    by_cases (λ (ps : List Placed). (get_or ps k no_place).own ≡ true) (nat_lt (length xs.items) xs.capacity) (xs.items ++ x ∷ []) xs.items
    (λ e. let room : length xs.items < xs.capacity = below_by (length xs.items) xs.capacity e in
    let here : k ≡ length xs.items = omega (arith, room, count) in
    ap (λ (i : ℕ). (get_or (xs.items ++ x ∷ []) i no_place).own) here
    ∙ ap (λ (p : Placed). p.own) (get_or-append_seam xs.items x [] no_place) ∙ own)
    (λ e. let full : xs.capacity ≤ length xs.items = not_below_by (length xs.items) xs.capacity e in
    ap (λ (p : Placed). p.own) (get_or_past xs.items k no_place (omega (arith, full, count))))

place_here : (x : Placed) (xs : Items Placed) (k : ℕ) → length xs.items ≡ min k xs.capacity → k < xs.capacity
    → get_or (added x xs).items k no_place ≡ x
place_here x xs k count less =
    let here : k ≡ length xs.items = omega (arith, count, less) in
    let is : (added x xs).items ≡ xs.items ++ x ∷ [] =
    if_true (nat_lt (length xs.items) xs.capacity) (xs.items ++ x ∷ []) xs.items (below_is (length xs.items) xs.capacity (omega (arith, here, less))) in
    ap (λ (ps : List Placed). get_or ps k no_place) is ∙ ap (λ (i : ℕ). get_or (xs.items ++ x ∷ []) i no_place) here
    ∙ get_or-append_seam xs.items x [] no_place

place_count : (x : Placed) (xs : Items Placed) (k : ℕ) → length xs.items ≡ min k xs.capacity → length (added x xs).items ≡ min (suc k) xs.capacity
place_count x xs k count =
    by_cases (λ (ps : List Placed). length ps ≡ min (suc k) xs.capacity) (nat_lt (length xs.items) xs.capacity) (xs.items ++ x ∷ []) xs.items
    (λ e. let room : length xs.items < xs.capacity = below_by (length xs.items) xs.capacity e in
    omega (arith, length-append xs.items (x ∷ []), room, count))
    (λ e. let full : xs.capacity ≤ length xs.items = not_below_by (length xs.items) xs.capacity e in
    omega (arith, full, count))

row_closed : (s t u : Grid) (n : ℕ) (x : Placed) → RowsPlaced s n t → Partly t n (columns t) u → columns t ≡ columns s
    → x.own ≡ nat_lt (length t.cells.items) (length u.cells.items) → x.cells ≡ length t.cells.items → x.cells_end ≡ length u.cells.items
    → RowsPlaced s (suc n) (record u { placed = added x u.placed })
row_closed s t u n x p j same own from to =
    let v : Grid = record u { placed = added x u.placed } in
    let w : ℕ = columns s in
    let counted : length u.placed.items ≡ min n u.placed.capacity =
    ap (λ (ps : Items Placed). length ps.items) j.rows ∙ p.count ∙ ap (λ (ps : Items Placed). min n ps.capacity) (sym j.rows) in
    record {
      heads = j.heads ∙ p.heads;
      table = j.table ∙ p.table;
      places = ap (λ (ps : Items Placed). ps.capacity) j.rows ∙ p.places;
      count = place_count x u.placed n counted;
      room = j.grid.room ∙ p.room;
      grid = omega (arith, j.grid.count, p.grid, same);
      begins = λ f less.
          elim (below_or f (length t.cells.items)) [
            | inl before ↦
                (let o : Begins w n t f = p.begins f before in
                let top : (cell_of u f).top ≡ (cell_of t f).top = j.tops f before in
                let first : (cell_of u f).first ≡ (cell_of t f).first = j.firsts f before in (
                  omega (arith, top, o.0),
                  omega (arith, first, o.1),
                  ap (λ (k : ℕ). entry u.numbers (k * w + (cell_of u f).first)) top
                      ∙ ap (λ (k : ℕ). entry u.numbers ((cell_of t f).top * w + k)) first
                      ∙ j.grid.kept ((cell_of t f).top * w + (cell_of t f).first)
                      (omega (arith, within w n (cell_of t f).top (cell_of t f).first o.0 o.1, p.grid))
                      ∙ o.2,
                  ap (λ (k : ℕ). (placed v k).own) top
                      ∙ ap (λ (y : Placed). y.own) (place_before x u.placed (cell_of t f).top n counted o.0)
                      ∙ ap (λ (ps : Items Placed). (get_or ps.items (cell_of t f).top no_place).own) j.rows
                      ∙ o.3,
                ))
            | inr low ↦
                (let my : Mine t n (columns t) u f = j.mine f low less in (
                  omega (arith, my.0),
                  omega (arith, my.1, same),
                  ap (λ (k : ℕ). entry u.numbers (k * w + (cell_of u f).first)) my.0
                      ∙ ap (λ (k : ℕ). entry u.numbers (k + (cell_of u f).first)) (sym p.grid)
                      ∙ my.2,
                  ap (λ (k : ℕ). (placed v k).own) my.0
                      ∙ place_last x u.placed n counted (own ∙ below_is (length t.cells.items) (length u.cells.items) (omega (arith, low, less))),
                ))
          ];
      ranges = λ f less room.
          elim (below_or f (length t.cells.items)) [
            | inl before ↦
                (let top : (cell_of u f).top ≡ (cell_of t f).top = j.tops f before in
                let o : Begins w n t f = p.begins f before in
                let r : InRange t f =
                p.ranges f before (omega (arith, room, top, ap (λ (ps : Items Placed). ps.capacity) j.rows)) in
                let is : placed v (cell_of u f).top ≡ placed t (cell_of t f).top =
                ap (λ (k : ℕ). placed v k) top ∙ place_before x u.placed (cell_of t f).top n counted o.0
                ∙ ap (λ (ps : Items Placed). get_or ps.items (cell_of t f).top no_place) j.rows in
                (omega (arith, r.0, ap (λ (y : Placed). y.cells) is), omega (arith, r.1, ap (λ (y : Placed). y.cells_end) is)))
            | inr low ↦
                (let my : Mine t n (columns t) u f = j.mine f low less in
                let is : placed v (cell_of u f).top ≡ x =
                ap (λ (k : ℕ). placed v k) my.0 ∙ place_here x u.placed n counted (omega (arith, room, my.0)) in
                (omega (arith, low, from, ap (λ (y : Placed). y.cells) is), omega (arith, less, to, ap (λ (y : Placed). y.cells_end) is)))
          ];
    }

-- the numbers have room for all rows
abbrev pub AllRoom : Grid → Type 0
AllRoom s = (length s.table.rows.items * columns s ≤ s.numbers.capacity) × (s.numbers.capacity ≤ most)

row_placed : (s : Grid) (n : ℕ) (t : Grid) → AllRoom s → n < length s.table.rows.items → RowsPlaced s n t → RowsPlaced s (suc n) (placed_row n t)
row_placed s n t room inside p =
    let same : columns t ≡ columns s = ap (λ (xs : Items Column). length xs.items) p.heads in
    let up : n * columns s + columns s ≤ length s.table.rows.items * columns s = up_to (columns s) n (length s.table.rows.items) inside in
    let has : HasRoom t = (omega (arith, p.grid, p.room, same, room.0, up), omega (arith, p.room, room.1)) in
    let starts : Starts t n = p.grid ∙ ap (λ (k : ℕ). n * k) (sym same) in
    let r : Row = row t.table n in
    let q : Placing = placing (columns t) n r t in
    let filled : Partly t n (columns t) q.grid = row_filled t n r has starts in
    let inner : columns q.grid ≡ columns t = ap (λ (xs : Items Column). length xs.items) filled.heads in
    let u : Grid = went_on n (length t.cells.items) q.grid in
    let j : Partly t n (columns t) u =
    subst (λ (k : ℕ). Partly t n (columns t) (in_turn k (went_on_at n (length t.cells.items)) q.grid)) (sym inner)
    (judged t n (columns t) q.grid has starts (omega arith) filled) in
    row_closed s t u n (place_of n (length t.cells.items) q.given u) p j same refl refl refl

pub rows_placed : (t : Grid) (k : ℕ) → AllRoom (forgotten_cells t) → k ≤ length t.table.rows.items
    → RowsPlaced (forgotten_cells t) k (in_turn k placed_row (forgotten_cells t))
rows_placed t zero room h = record {
  heads = refl;
  table = refl;
  places = refl;
  count = omega arith;
  room = refl;
  grid = omega arith;
  begins = λ f less. absurd (none f less);
  ranges = λ f less room. absurd (none f less);
}
  where
    none : (f : ℕ) → f < 0 → ⊥
    none f less = omega (arith, less)
rows_placed t (suc k) room h =
    row_placed (forgotten_cells t) k (in_turn k placed_row (forgotten_cells t)) room (omega (arith, h)) (rows_placed t k room (omega (arith, h)))

-- ---- rows and fields are settled

row_stays : (s : Grid) (k n own : ℕ) (t : Grid) → RowsPlaced s k t
    → RowsPlaced s k (record t { placed = put n (record (placed t n) { last_own = own }) t.placed })
row_stays s k n own t p =
    let x : Placed = record (placed t n) { last_own = own } in
    record {
      heads = p.heads;
      table = p.table;
      places = p.places;
      count = length-set t.placed.items n x ∙ p.count;
      room = p.room;
      grid = p.grid;
      begins = λ f less.
          let o : Begins (columns s) k t f = p.begins f less in
          (o.0, o.1, o.2, set_same (λ (y : Placed). y.own) t.placed.items n x no_place refl (cell_of t f).top ∙ o.3);
      ranges = λ f less room.
          let r : InRange t f = p.ranges f less room in
          let top : ℕ = (cell_of t f).top in (
            omega (arith, r.0, set_same (λ (y : Placed). y.cells) t.placed.items n x no_place refl top),
            omega (arith, r.1, set_same (λ (y : Placed). y.cells_end) t.placed.items n x no_place refl top),
          );
    }

cell_stays : (s : Grid) (k n : ℕ) (t : Grid) → RowsPlaced s k t → RowsPlaced s k (settled_cell n t)
cell_stays s k n t p =
    let x : Cell = ended_in t (cell_of t n) in
    let u : Grid = settled_cell n t in
    let tops : (i : ℕ) → (cell_of u i).top ≡ (cell_of t i).top = set_same (λ (c : Cell). c.top) t.cells.items n x no_cell refl in
    let firsts : (i : ℕ) → (cell_of u i).first ≡ (cell_of t i).first = set_same (λ (c : Cell). c.first) t.cells.items n x no_cell refl in
    record {
      heads = p.heads;
      table = p.table;
      places = p.places;
      count = p.count;
      room = p.room;
      grid = p.grid;
      begins = λ f less.
          let o : Begins (columns s) k t f = p.begins f (omega (arith, less, length-set t.cells.items n x)) in (
            omega (arith, tops f, o.0),
            omega (arith, firsts f, o.1),
            ap (λ (i : ℕ). entry t.numbers (i * columns s + (cell_of u f).first)) (tops f)
                ∙ ap (λ (i : ℕ). entry t.numbers ((cell_of t f).top * columns s + i)) (firsts f)
                ∙ o.2,
            ap (λ (i : ℕ). (placed t i).own) (tops f) ∙ o.3,
          );
      ranges = λ f less room.
          let r : InRange t f = p.ranges f (omega (arith, less, length-set t.cells.items n x)) (omega (arith, room, tops f)) in (
            omega (arith, r.0, ap (λ (i : ℕ). (placed t i).cells) (tops f)),
            omega (arith, r.1, ap (λ (i : ℕ). (placed t i).cells_end) (tops f)),
          );
    }

pub all_placed : (t : Grid) → AllRoom (forgotten_cells t) → RowsPlaced (forgotten_cells t) (length t.table.rows.items) (placed_cells t)
all_placed t room =
    let s : Grid = forgotten_cells t in
    let k : ℕ = length t.table.rows.items in
    let a : Grid = in_turn k placed_row s in
    let p : RowsPlaced s k a = rows_placed t k room (omega arith) in
    let b : Settling = in_turn (length a.placed.items) settled_row (settling a 0) in
    let q : RowsPlaced s k b.grid =
    turn_has (λ (x : Settling). RowsPlaced s k x.grid) settled_row
    (λ n x h. row_stays s k n (if (placed x.grid n).own then n else x.last_own) x.grid h) (length a.placed.items) (settling a 0) p in
    turn_has (RowsPlaced s k) settled_cell (λ n x h. cell_stays s k n x h) (length b.grid.cells.items) b.grid q
