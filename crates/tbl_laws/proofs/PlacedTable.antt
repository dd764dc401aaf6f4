-- All rows of a table of the letters l, r and c are placed: its cells are those of its rows, one after the other.
use Rattle.std.proofs.Common.{◌≡◌, ℕ, zero, suc, ◌+◌, ◌*◌, ◌<◌, ◌≤◌, min, List, [], ◌∷◌, ◌++◌, length, Bool, true, false, if◌then◌else◌, nat_lt, get_or, refl, sym, ◌∙◌, ap, append-nil, length-append, arith}
use Rattle.std.proofs.Math.ListN.{get_or-append}
use Rattle.std.proofs.Math.Seq.{get_or-append-add, get_or-append_seam}
use Rattle.std.proofs.lemmas.Bool.{lt-ltb}
use Rattle.std.proofs.lemmas.Bool.Decides.{nat_tests}
use Rattle.tbl_columns.specs.declared.grid.Cell.{Cell}
use Rattle.tbl_columns.specs.declared.grid.Grid.{Grid}
use Rattle.tbl_columns.specs.declared.grid.Placed.{Placed}
use Rattle.tbl_columns.specs.Cells.{Settling, placed_cells, placed_row, placing, row_own as with_own, row_placed, row_settled, settled_cell, settled_cells, settled_row, settled_rows, settling, went_on, went_on_at, went_on_in}
use Rattle.tbl_columns.specs.Held.{cell_number, cell_of, columns, no_cell, no_place, placed}
use Rattle.tbl_columns.proofs.Same.{cell_own, row_own}
use Rattle.tbl_table.specs.Held.{row}
use Rattle.tbl_table.specs.Lists.{in_turn}
use Rattle.tbl_laws.proofs.PlacedCells.{IsHeld, all_cells, all_length, filled, fits_one, given, placing_is, row_cells, row_length, rows_within, state, the_cell, upto, upto_at}

-- ---- a row in which no field goes on from above

pub same_turn : {T : Type 0} (k : ℕ) (f : ℕ → T → T) (x : T) → ((n : ℕ) → n < k → f n x ≡ x) → in_turn k f x ≡ x
same_turn zero f x h = refl
same_turn (suc k) f x h = ap (f k) (same_turn k f x (λ n less. h n (omega (arith, less)))) ∙ h k (omega arith)

-- the number of a column's field
pub number_is : (w r c n m : ℕ) → r < n → c < w → n * w < 18446744073709551615 → r * w + c < m → get_or (upto m) (min (min (r * w) 18446744073709551615 + c) 18446744073709551615) 0 ≡ r * w + c
number_is w r c n m inside less small long =
    let more : (r + 1) * w ≤ n * w = rows_within r n w inside in
    let at : min (min (r * w) 18446744073709551615 + c) 18446744073709551615 ≡ r * w + c = omega (arith, more, less, small) in
    ap (λ (i : ℕ). get_or (upto m) i 0) at ∙ upto_at m (r * w + c) long

none_from_above : (u : Grid) (w r : ℕ) (q : List Placed) → IsHeld u w → r < length u.table.rows.items
    → went_on r (length (all_cells u w r)) (state u w r w q) ≡ state u w r w q
none_from_above u w r q h inside =
    let T = state u w r w q in
    let small : length u.table.rows.items * w < 18446744073709551615 = (let a = h.number_room in let b = h.small in omega (arith, a, b)) in
    same_turn (columns u) (went_on_at r (length (all_cells u w r))) T (λ c less.
    let inside_c : c < w = (let e = h.columns_are in omega (arith, e, less)) in
    let number : cell_number T r c ≡ r * w + c =
    ap (λ (v : ℕ). get_or (upto (r * w + w)) (min (min (r * v) 18446744073709551615 + c) 18446744073709551615) 0) h.columns_are
    ∙ number_is w r c (length u.table.rows.items) (r * w + w) inside inside_c small (omega (arith, inside_c)) in
    let long = all_length u w r in
    let own : nat_lt (cell_number T r c) (length (all_cells u w r)) ≡ false = grind (arith, nat_tests, number, long) in
    ap (λ (b : Bool). if b then went_on_in r c (cell_number T r c) T else T) own)

-- ---- rows, one after the other: where their fields stand

abbrev pub the_place : Grid → ℕ → ℕ → Placed
the_place u w r = record {
  beyond = given u r w;
  cells = length (all_cells u w r);
  cells_end = length (all_cells u w (suc r));
  own = nat_lt (length (all_cells u w r)) (length (all_cells u w (suc r)));
  last_own = r;
}

abbrev pub places_to : Grid → ℕ → ℕ → List Placed
places_to u w zero = []
places_to u w (suc r) = places_to u w r ++ the_place u w r ∷ []

pub places_length : (u : Grid) (w r : ℕ) → length (places_to u w r) ≡ r
places_length u w zero = refl
places_length u w (suc r) = (let l = length-append (places_to u w r) (the_place u w r ∷ []) in let m = places_length u w r in omega (arith, l, m))

place_to : (u : Grid) (w n r : ℕ) → r < n → get_or (places_to u w n) r no_place ≡ the_place u w r
place_to u w zero r h = absurd (omega (arith, h))
place_to u w (suc n) r h = by_test (nat_lt r n) refl (λ less. place_to u w n r less)
  where
    long : length (places_to u w n) ≡ n
    long = places_length u w n

    by_test : (b : Bool) → nat_lt r n ≡ b → (r < n → get_or (places_to u w n) r no_place ≡ the_place u w r)
        → get_or (places_to u w n ++ the_place u w n ∷ []) r no_place ≡ the_place u w r
    by_test true e before = (let less : r < n = grind (arith, nat_tests, e) in get_or-append (places_to u w n) (the_place u w n ∷ []) no_place r (omega (arith, less, long)) ∙ before less)
    by_test false e before =
        (let same : r ≡ n = (let m : n ≤ r = grind (arith, nat_tests, e) in omega (arith, m, h)) in
        ap (λ (k : ℕ). get_or (places_to u w n ++ the_place u w n ∷ []) k no_place) (same ∙ sym long)
        ∙ get_or-append_seam (places_to u w n) (the_place u w n) [] no_place ∙ ap (the_place u w) (sym same))

abbrev pub placed_to : Grid → ℕ → ℕ → Grid
placed_to u w r = filled u (all_cells u w r) (upto (r * w)) (places_to u w r)

pub place_at : (u : Grid) (w r : ℕ) → r < length u.table.rows.items → placed (placed_to u w (length u.table.rows.items)) r ≡ the_place u w r
place_at u w r h = place_to u w (length u.table.rows.items) r h

row_is : (u : Grid) (w r : ℕ) → IsHeld u w → r < length u.table.rows.items → placed_row r (placed_to u w r) ≡ placed_to u w (suc r)
row_is u w r h inside =
    let T = placed_to u w r in
    let q = places_to u w r in
    let x = row u.table r in
    let cells = length (all_cells u w r) in
    let long = places_length u w r in
    let begins : state u w r 0 q ≡ T =
    ap (λ (l : List Cell). filled u l (upto (r * w + 0)) q) (append-nil (all_cells u w r))
    ∙ ap (λ (n : ℕ). filled u (all_cells u w r) (upto n) q) (let e : r * w + 0 ≡ r * w = omega arith in e) in
    let all : placing (columns u) r x T ≡ record { grid = state u w r w q; given = given u r w; next = w } =
    ap (λ (n : ℕ). placing n r x T) h.columns_are ∙ ap (placing w r x) (sym begins) ∙ placing_is u w r w q h inside (omega arith) in
    ap (row_settled r cells) all
    ∙ ap (row_placed r cells (given u r w)) (none_from_above u w r q h inside)
    ∙ ap (λ (l : List Placed). filled u (all_cells u w (suc r)) (upto (r * w + w)) l)
    (fits_one (the_place u w r) q u.placed.capacity (let room = h.place_room in omega (arith, long, room, inside)))
    ∙ ap (λ (n : ℕ). filled u (all_cells u w (suc r)) (upto n) (places_to u w (suc r))) (let e : r * w + w ≡ suc r * w = omega arith in e)

rows_to : (u : Grid) (w r : ℕ) → IsHeld u w → r ≤ length u.table.rows.items → in_turn r placed_row (placed_to u w 0) ≡ placed_to u w r
rows_to u w zero h few = refl
rows_to u w (suc r) h few = ap (placed_row r) (rows_to u w r h (omega (arith, few))) ∙ row_is u w r h (omega (arith, few))

-- ---- cells by number

row_cell_at : (u : Grid) (r m c : ℕ) → c < m → get_or (row_cells u r m) c no_cell ≡ the_cell u r c
row_cell_at u r zero c h = absurd (omega (arith, h))
row_cell_at u r (suc m) c h = by_test (nat_lt c m) refl (λ less. row_cell_at u r m c less)
  where
    by_test : (b : Bool) → nat_lt c m ≡ b → (c < m → get_or (row_cells u r m) c no_cell ≡ the_cell u r c)
        → get_or (row_cells u r m ++ the_cell u r m ∷ []) c no_cell ≡ the_cell u r c
    by_test true e before =
        (let less : c < m = grind (arith, nat_tests, e) in let long = row_length u r m in
        get_or-append (row_cells u r m) (the_cell u r m ∷ []) no_cell c (omega (arith, less, long)) ∙ before less)
    by_test false e before =
        (let same : c ≡ m = (let n : m ≤ c = grind (arith, nat_tests, e) in omega (arith, n, h)) in let long = row_length u r m in
        ap (λ (k : ℕ). get_or (row_cells u r m ++ the_cell u r m ∷ []) k no_cell) (same ∙ sym long)
        ∙ get_or-append_seam (row_cells u r m) (the_cell u r m) [] no_cell ∙ ap (the_cell u r) (sym same))

cell_in : (u : Grid) (w n r c : ℕ) → r < n → c < w → get_or (all_cells u w n) (r * w + c) no_cell ≡ the_cell u r c
cell_in u w zero r c h less = absurd (omega (arith, h))
cell_in u w (suc n) r c h less = by_test (nat_lt r n) refl (λ inside. cell_in u w n r c inside less)
  where
    long : length (all_cells u w n) ≡ n * w
    long = all_length u w n

    by_test : (b : Bool) → nat_lt r n ≡ b → (r < n → get_or (all_cells u w n) (r * w + c) no_cell ≡ the_cell u r c)
        → get_or (all_cells u w n ++ row_cells u n w) (r * w + c) no_cell ≡ the_cell u r c
    by_test true e before =
        (let inside : r < n = grind (arith, nat_tests, e) in let more : (r + 1) * w ≤ n * w = rows_within r n w inside in
        get_or-append (all_cells u w n) (row_cells u n w) no_cell (r * w + c) (omega (arith, more, less, long)) ∙ before inside)
    by_test false e before =
        (let same : r ≡ n = (let m : n ≤ r = grind (arith, nat_tests, e) in omega (arith, m, h)) in
        let at : r * w + c ≡ length (all_cells u w n) + c = ap (λ (k : ℕ). k * w + c) same ∙ ap (λ (k : ℕ). k + c) (sym long) in
        ap (λ (k : ℕ). get_or (all_cells u w n ++ row_cells u n w) k no_cell) at
        ∙ get_or-append-add (all_cells u w n) (row_cells u n w) c no_cell
        ∙ row_cell_at u n w c less ∙ ap (λ (k : ℕ). the_cell u k c) (sym same))

pub cell_at : (u : Grid) (w r c : ℕ) → r < length u.table.rows.items → c < w → get_or (all_cells u w (length u.table.rows.items)) (r * w + c) no_cell ≡ the_cell u r c
cell_at u w r c h less = cell_in u w (length u.table.rows.items) r c h less

-- ---- what all of them have, and what is beyond them

both_have : (P : Cell → Type 0) (xs ys : List Cell) → ((n : ℕ) → P (get_or xs n no_cell)) → ((n : ℕ) → P (get_or ys n no_cell)) → (n : ℕ) → P (get_or (xs ++ ys) n no_cell)
both_have P [] ys h k n = k n
both_have P (x ∷ xs) ys h k zero = h 0
both_have P (x ∷ xs) ys h k (suc n) = both_have P xs ys (λ m. h (suc m)) k n

one_has : (P : Cell → Type 0) (x : Cell) → P no_cell → P x → (n : ℕ) → P (get_or (x ∷ []) n no_cell)
one_has P x p q zero = q
one_has P x p q (suc n) = p

row_have : (P : Cell → Type 0) (u : Grid) (r c : ℕ) → P no_cell → ((k : ℕ) → k < c → P (the_cell u r k)) → (n : ℕ) → P (get_or (row_cells u r c) n no_cell)
row_have P u r zero p q n = p
row_have P u r (suc c) p q n =
    both_have P (row_cells u r c) (the_cell u r c ∷ []) (row_have P u r c p (λ k less. q k (omega (arith, less)))) (one_has P (the_cell u r c) p (q c (omega arith))) n

pub all_have : (P : Cell → Type 0) (u : Grid) (w r : ℕ) → P no_cell → ((q c : ℕ) → q < r → c < w → P (the_cell u q c)) → (n : ℕ) → P (get_or (all_cells u w r) n no_cell)
all_have P u w zero p q n = p
all_have P u w (suc r) p q n =
    both_have P (all_cells u w r) (row_cells u r w) (all_have P u w r p (λ k c less. q k c (omega (arith, less)))) (row_have P u r w p (λ c. q r c (omega arith))) n

-- ---- rows and cells end where they are

settling_is : (T : Grid) (k : ℕ) → ((r : ℕ) → r < k → ((placed T r).own ≡ true) × ((placed T r).last_own ≡ r)) → (own : ℕ) × (in_turn k settled_row (settling T 0) ≡ settling T own)
settling_is T zero h = (0, refl)
settling_is T (suc k) h =
    let (own, before) = settling_is T k (λ r less. h r (omega (arith, less))) in
    let mine = h k (omega arith) in (
      k,
      ap (settled_row k) before
          ∙ ap (λ (b : Bool). with_own k (if b then k else own) T) mine.0
          ∙ ap (λ (S : Grid). settling S k) (row_own k k T mine.1),
    )

pub row_owned : (u : Grid) (w r : ℕ) → IsHeld u w → r < length u.table.rows.items
    → ((placed (placed_to u w (length u.table.rows.items)) r).own ≡ true) × ((placed (placed_to u w (length u.table.rows.items)) r).last_own ≡ r)
row_owned u w r h inside =
    let is = place_at u w r inside in
    let more = length-append (all_cells u w r) (row_cells u r w) in
    let wide = row_length u r w in
    let longer : nat_lt (length (all_cells u w r)) (length (all_cells u w (suc r))) ≡ true = lt-ltb _ _ (let s = h.some in omega (arith, more, wide, s)) in
    (ap (λ (y : Placed). y.own) is ∙ longer, ap (λ (y : Placed). y.last_own) is)

pub placed_is : (u : Grid) (w : ℕ) → IsHeld u w → placed_cells u ≡ placed_to u w (length u.table.rows.items)
placed_is u w h =
    let R = length u.table.rows.items in
    let T = placed_to u w R in
    let count : length (places_to u w R) ≡ R = places_length u w R in
    let settle = settling_is T R (λ r less. row_owned u w r h less) in
    let first : (placed T 0).last_own ≡ 0 = by_count (nat_lt 0 R) refl in
    let rows_done : settled_rows T ≡ T = ap (λ (n : ℕ). (in_turn n settled_row (settling T 0)).grid) count ∙ ap (λ (s : Settling). s.grid) settle.1 in
    let ends : (n : ℕ) → IsOwn T (cell_of T n) = all_have (IsOwn T) u w R (refl, refl, sym first) (λ q c less few. (lt_not q, refl, sym (row_owned u w q h less).1)) in
    ap (λ (n : ℕ). settled_cells (settled_rows (in_turn R placed_row (filled u [] (upto n) [])))) (let e : 0 ≡ 0 * w = omega arith in e)
    ∙ ap (λ (S : Grid). settled_cells (settled_rows S)) (rows_to u w R h (omega arith))
    ∙ ap settled_cells rows_done
    ∙ same_turn (length T.cells.items) settled_cell T (λ n less. cell_own n T (ends n).0 (ends n).2)
  where
    IsOwn : Grid → Cell → Type 0
    IsOwn T f = (f.falls ≡ nat_lt f.top f.bottom) × (f.top ≡ f.bottom) × (f.bottom ≡ (placed T f.bottom).last_own)

    none_at : (xs : List Placed) → length xs ≤ 0 → (get_or xs 0 no_place).last_own ≡ 0
    none_at [] e = refl
    none_at (x ∷ xs) e = absurd (omega (arith, e))

    by_count : (b : Bool) → nat_lt 0 (length u.table.rows.items) ≡ b → (placed (placed_to u w (length u.table.rows.items)) 0).last_own ≡ 0
    by_count true e = (row_owned u w 0 h (grind (arith, nat_tests, e))).1
    by_count false e = (let long = places_length u w (length u.table.rows.items) in none_at (places_to u w (length u.table.rows.items)) (grind (arith, nat_tests, e, long)))

    lt_not : (q : ℕ) → false ≡ nat_lt q q
    lt_not q = grind (arith, nat_tests)
