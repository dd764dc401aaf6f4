-- The fields of rows in a table of the letters l, r and c: each column of each row has its own.
use Rattle.std.proofs.Common.{◌≡◌, ℕ, zero, suc, ◌+◌, ◌-◌, ◌*◌, ◌<◌, ◌≤◌, min, List, [], ◌∷◌, ◌++◌, length, Bool, true, false, not, ◌&&◌, ◌||◌, if◌then◌else◌, nat_lt, get_or, refl, sym, ◌∙◌, ap, subst, append_assoc, length-append, arith}
use Rattle.std.proofs.Math.ListN.{get_or-append}
use Rattle.std.proofs.Math.Seq.{get_or-append_seam}
use Rattle.std.proofs.lemmas.Bool.{lt-ltb}
use Rattle.std.proofs.lemmas.Bool.Decides.{nat_tests}
use Rattle.tbl_blocks.specs.Blocks.{cleared}
use Rattle.tbl_columns.specs.declared.grid.Cell.{Cell}
use Rattle.tbl_columns.specs.declared.grid.Grid.{Grid}
use Rattle.tbl_columns.specs.declared.grid.Placed.{Placed}
use Rattle.tbl_columns.specs.Cells.{Placing, field_given, goes_on, goes_over, gone_on, is_above, is_across, is_down, last_of, new_cell, placed_at, placed_field, placed_form, placed_in, placed_next, placing}
use Rattle.tbl_columns.specs.Held.{columns}
use Rattle.tbl_table.specs.declared.table.Field.{Field}
use Rattle.tbl_table.specs.declared.table.Form.{Form}
use Rattle.tbl_table.specs.declared.table.Form.TheVariants as forms
use Rattle.tbl_table.specs.declared.table.Key.{Key}
use Rattle.tbl_table.specs.declared.table.Kind.{Kind}
use Rattle.tbl_table.specs.declared.table.Row.{Row}
use Rattle.tbl_table.specs.Held.{field, has_text, is_ruling, is_text, key, line, no_field, none_of, row}
use Rattle.tbl_table.specs.Lists.{added, added_each}
use Rattle.tbl_table.specs.Sums.{sum}
use Rattle.tbl_laws.proofs.ReadColumns.{IsLetter, by_letter, stands}

-- ---- letters

none_third : (a b c : Bool) → c ≡ false → (a && b && c) ≡ false
none_third false b c h = refl
none_third true false c h = refl
none_third true true c h = h

none_second : (a b c : Bool) → b ≡ false → (a && b && c) ≡ false
none_second false b c h = refl
none_second true b c h = ap (λ (x : Bool). x && c) h

pub kind_is : (k : Key) → IsLetter k → stands k.kind ≡ true
kind_is k (kind, is, same) = subst (λ (x : Key). stands x.kind ≡ true) (sym same) is

-- what no such letter is
none_is : (test : Kind → Bool) (k : Key) → IsLetter k → ((kind : Kind) → stands kind ≡ true → test kind ≡ false) → test k.kind ≡ false
none_is test k is none = none k.kind (kind_is k is)

no_across : (kind : Kind) → stands kind ≡ true → is_across kind ≡ false
no_across kind h = by_letter (λ x. is_across x ≡ false) refl refl refl kind h

no_down : (kind : Kind) → stands kind ≡ true → is_down kind ≡ false
no_down kind h = by_letter (λ x. is_down x ≡ false) refl refl refl kind h

no_ruling : (kind : Kind) → stands kind ≡ true → is_ruling kind ≡ false
no_ruling kind h = by_letter (λ x. is_ruling x ≡ false) refl refl refl kind h

-- a field of such a column is its own
own_field : (k : Key) (f : Field) → IsLetter k → f.form ≡ forms.Text → goes_on k f ≡ false
own_field k f is text =
    ap (λ (x : Form). is_above_or x) text ∙ none_second true (is_down k.kind) (not (has_text f)) (none_is is_down k is no_down)
  where
    is_above_or : Form → Bool
    is_above_or x = is_above x || (is_text x && is_down k.kind && not (has_text f))

pub form_is : (k : Key) (f : Field) → IsLetter k → placed_form k f ≡ f
form_is k f is =
    ap (λ (x : Bool). record f { form = if x then forms.Rule else f.form })
    (none_third (is_text f.form) (not (has_text f)) (is_ruling k.kind) (none_is is_ruling k is no_ruling))

-- ---- the first numbers

abbrev pub upto : ℕ → List ℕ
upto zero = []
upto (suc n) = upto n ++ n ∷ []

pub upto_length : (n : ℕ) → length (upto n) ≡ n
upto_length zero = refl
upto_length (suc n) = (let l = length-append (upto n) (n ∷ []) in let m = upto_length n in omega (arith, l, m))

pub upto_at : (n i : ℕ) → i < n → get_or (upto n) i 0 ≡ i
upto_at zero i h = absurd (omega (arith, h))
upto_at (suc n) i h = by_test (nat_lt i n) refl (λ less. upto_at n i less)
  where
    long : length (upto n) ≡ n
    long = upto_length n

    by_test : (b : Bool) → nat_lt i n ≡ b → (i < n → get_or (upto n) i 0 ≡ i) → get_or (upto n ++ n ∷ []) i 0 ≡ i
    by_test true e before = (let less : i < n = grind (arith, nat_tests, e) in get_or-append (upto n) (n ∷ []) 0 i (omega (arith, less, long)) ∙ before less)
    by_test false e before =
        (let same : i ≡ length (upto n) = (let m : n ≤ i = grind (arith, nat_tests, e) in omega (arith, m, h, long)) in
        ap (λ (k : ℕ). get_or (upto n ++ n ∷ []) k 0) same ∙ get_or-append_seam (upto n) n [] 0 ∙ (let s = same in omega (arith, s, long)))

-- ---- the cells of a row, in the first columns

abbrev pub given : Grid → ℕ → ℕ → ℕ
given u r zero = (row u.table r).first
given u r (suc c) = min (sum (given u r c) 1) (row u.table r).«end»

abbrev pub the_cell : Grid → ℕ → ℕ → Cell
the_cell u r c = new_cell u r (key u.table (line u.table 0) c) (field_given u (row u.table r) (given u r c)) c c

abbrev pub row_cells : Grid → ℕ → ℕ → List Cell
row_cells u r zero = []
row_cells u r (suc c) = row_cells u r c ++ the_cell u r c ∷ []

pub row_length : (u : Grid) (r c : ℕ) → length (row_cells u r c) ≡ c
row_length u r zero = refl
row_length u r (suc c) = (let l = length-append (row_cells u r c) (the_cell u r c ∷ []) in let m = row_length u r c in omega (arith, l, m))

-- of the first rows, all
abbrev pub all_cells : Grid → ℕ → ℕ → List Cell
all_cells u w zero = []
all_cells u w (suc r) = all_cells u w r ++ row_cells u r w

pub all_length : (u : Grid) (w r : ℕ) → length (all_cells u w r) ≡ r * w
all_length u w zero = omega arith
all_length u w (suc r) =
    (let l = length-append (all_cells u w r) (row_cells u r w) in let m = all_length u w r in let n = row_length u r w in omega (arith, l, m, n))

-- ---- a table with these cells

abbrev pub filled : Grid → List Cell → List ℕ → List Placed → Grid
filled u cells numbers places = record u {
  blocks = cleared u.blocks;
  cells = record u.cells { items = cells };
  numbers = record u.numbers { items = numbers };
  placed = record u.placed { items = places };
  texts = none_of u.texts;
}

-- what is held of a row, in a table of so many columns
pub record IsHeldRow (u : Grid) (w r : ℕ) : Type 0 where
  pub line_is : (row u.table r).line ≡ 0
  pub first : (row u.table r).first ≤ (row u.table r).«end»
  pub few : (row u.table r).«end» ≤ (row u.table r).first + w
  pub small : (row u.table r).«end» < 18446744073709551615

pub record IsHeld (u : Grid) (w : ℕ) : Type 0 where
  pub some : 0 < w
  pub columns_are : columns u ≡ w
  pub letters : (c : ℕ) → c < w → IsLetter (key u.table (line u.table 0) c)
  pub texts : (n : ℕ) → (field u.table n).form ≡ forms.Text
  pub rows : (r : ℕ) → r < length u.table.rows.items → IsHeldRow u w r
  pub cell_room : length u.table.rows.items * w ≤ u.cells.capacity
  pub number_room : length u.table.rows.items * w ≤ u.numbers.capacity
  pub place_room : length u.table.rows.items ≤ u.placed.capacity
  pub small : u.numbers.capacity < 18446744073709551615

pub given_form : (u : Grid) (r : Row) (n : ℕ) → ((k : ℕ) → (field u.table k).form ≡ forms.Text) → (field_given u r n).form ≡ forms.Text
given_form u r n texts = by_test (nat_lt n r.«end»)
  where
    by_test : (b : Bool) → (if b then field u.table n else no_field).form ≡ forms.Text
    by_test true = texts n
    by_test false = refl

over_none : (m : ℕ) (u : Grid) (w c : ℕ) → ((c : ℕ) → c < w → IsLetter (key u.table (line u.table 0) c)) → m + (c + 1) ≤ w → goes_over m u (line u.table 0) c ≡ c
over_none zero u w c letters h = refl
over_none (suc m) u w c letters h =
    let k = key u.table (line u.table 0) (c + 1) in
    ap (λ (b : Bool). if b then goes_over m u (line u.table 0) (c + 1) else c)
    (none_is is_across k (letters (c + 1) (omega (arith, h))) no_across)

pub fits_one : {A : Type 0} (x : A) (xs : List A) (capacity : ℕ) → length xs < capacity → (if nat_lt (length xs) capacity then xs ++ x ∷ [] else xs) ≡ xs ++ x ∷ []
fits_one x xs capacity h = ap (λ (b : Bool). if b then xs ++ x ∷ [] else xs) (lt-ltb _ _ h)

rows_by : (a d v : ℕ) → (a + 1) * v ≤ (a + 1 + d) * v
rows_by a d v = omega arith

pub rows_within : (a b v : ℕ) → a < b → (a + 1) * v ≤ b * v
rows_within a b v h =
    let e : a + 1 + (b - (a + 1)) ≡ b = omega (arith, h) in
    subst (λ (n : ℕ). (a + 1) * v ≤ n * v) e (rows_by a (b - (a + 1)) v)

-- a field is placed in its column
next_is : (u : Grid) (w r c : ℕ) (q : List Placed) (x : Row) → IsHeld u w → x.line ≡ 0 → c < w → r < length u.table.rows.items
    → (g : ℕ)
    → placed_next r x g c c (filled u (all_cells u w r ++ row_cells u r c) (upto (r * w + c)) q)
    ≡ filled u ((all_cells u w r ++ row_cells u r c) ++ new_cell u r (key u.table (line u.table 0) c) (field_given u x g) c c ∷ []) (upto (suc (r * w + c))) q
next_is u w r c q x h line_is less inside g =
    let cells = all_cells u w r ++ row_cells u r c in
    let T = filled u cells (upto (r * w + c)) q in
    let k = key u.table (line u.table 0) c in
    let f = field_given u x g in
    let long : length cells ≡ r * w + c = (let a = length-append (all_cells u w r) (row_cells u r c) in let b = all_length u w r in let d = row_length u r c in omega (arith, a, b, d)) in
    let more : (r + 1) * w ≤ length u.table.rows.items * w = rows_within r (length u.table.rows.items) w inside in
    let room_a : length cells < u.cells.capacity = (let o = h.cell_room in omega (arith, long, more, less, o)) in
    let numbers_long = upto_length (r * w + c) in
    let room_b : length (upto (r * w + c)) < u.numbers.capacity = (let o = h.number_room in omega (arith, numbers_long, more, less, o)) in
    let one : sum c 1 - c ≡ 1 = (let e = h.number_room in let s = h.small in omega (arith, less, more, e, s)) in
    ap (λ (n : ℕ). placed_in r (key T.table (line T.table n) c) f c c T) line_is
    ∙ ap (λ (b : Bool). if nat_lt 0 r && b then gone_on r c c T else placed_field r k f c c T) (own_field k f (h.letters c less) (given_form u x g h.texts))
    ∙ ap (λ (b : Bool). if b then gone_on r c c T else placed_field r k f c c T) (none_here (nat_lt 0 r))
    ∙ ap (λ (n : ℕ). record T { cells = added (new_cell u r k f c c) T.cells; numbers = added_each n (length cells) T.numbers }) one
    ∙ ap (λ (l : List Cell). record T { cells = record T.cells { items = l }; numbers = added (length cells) T.numbers }) (fits_one (new_cell u r k f c c) cells u.cells.capacity room_a)
    ∙ ap (λ (l : List ℕ). filled u (cells ++ new_cell u r k f c c ∷ []) l q) (fits_one (length cells) (upto (r * w + c)) u.numbers.capacity room_b)
    ∙ ap (λ (n : ℕ). filled u (cells ++ new_cell u r k f c c ∷ []) (upto (r * w + c) ++ n ∷ []) q) long
  where
    none_here : (b : Bool) → (b && false) ≡ false
    none_here true = refl
    none_here false = refl

abbrev placing_of : Grid → ℕ → ℕ → Placing
placing_of T g c = record { grid = T; given = g; next = c }

abbrev pub state : Grid → ℕ → ℕ → ℕ → List Placed → Grid
state u w r c q = filled u (all_cells u w r ++ row_cells u r c) (upto (r * w + c)) q

-- of a row the first columns
pub placing_is : (u : Grid) (w r c : ℕ) (q : List Placed) → IsHeld u w → r < length u.table.rows.items → c ≤ w
    → placing c r (row u.table r) (state u w r 0 q) ≡ placing_of (state u w r c q) (given u r c) c
placing_is u w r zero q h inside few = refl
placing_is u w r (suc c) q h inside few =
    let x = row u.table r in
    let hr = h.rows r inside in
    let cells = all_cells u w r ++ row_cells u r c in
    let T = filled u cells (upto (r * w + c)) q in
    let g = given u r c in
    let here : nat_lt c c ≡ false = grind (arith, nat_tests) in
    let last : last_of T x c ≡ c = ap (λ (n : ℕ). goes_over (columns u - (c + 1)) T (line T.table n) c) hr.line_is
    ∙ over_none (columns u - (c + 1)) T w c h.letters (let e = h.columns_are in omega (arith, e, few)) in
    let small : sum c 1 ≡ suc c = (let a = h.number_room in let b = h.small in let o = wide_enough w (length u.table.rows.items) in let i = inside in omega (arith, a, b, o, i, few)) in
    ap (placed_at r x c) (placing_is u w r c q h inside (omega (arith, few)))
    ∙ ap (λ (b : Bool). if b then placing_of T g c
    else placing_of (placed_next r x g c (last_of T x c) T) (min (sum g 1) x.«end») (sum (last_of T x c) 1)) here
    ∙ ap (λ (n : ℕ). placing_of (placed_next r x g c n T) (min (sum g 1) x.«end») (sum n 1)) last
    ∙ ap (λ (n : ℕ). placing_of (placed_next r x g c c T) (min (sum g 1) x.«end») n) small
    ∙ ap (λ (S : Grid). placing_of S (given u r (suc c)) (suc c)) (next_is u w r c q x h hr.line_is (omega (arith, few)) inside g
    ∙ ap (λ (l : List Cell). filled u l (upto (suc (r * w + c))) q) (append_assoc (all_cells u w r) (row_cells u r c) (the_cell u r c ∷ []))
    ∙ ap (λ (n : ℕ). filled u (all_cells u w r ++ row_cells u r (suc c)) (upto n) q) (let e : suc (r * w + c) ≡ r * w + suc c = omega arith in e))
  where
    wide_enough : (v n : ℕ) → 0 < n → v ≤ n * v
    wide_enough v zero h = omega (arith, h)
    wide_enough v (suc n) h = omega arith
