-- A row is placed: each of its fields begins in the first of its columns, and what stands in the rows above stays.
use Rattle.std.specs.Prelude.{◌⊎◌}
use Rattle.std.proofs.Common.{◌≡◌, ℕ, zero, suc, ◌+◌, ◌-◌, ◌*◌, ◌<◌, ◌≤◌, min, Bool, true, false, ◌&&◌, nat_lt, List, [], ◌∷◌, ◌++◌, length, get_or, refl, sym, ap, subst, arith, ◌∙◌, length-append, inl, inr, if◌then◌else◌}
use Rattle.std.proofs.Math.ListN.{get_or-append}
use Rattle.std.proofs.Math.Seq.{get_or-append_seam}
use Rattle.std.proofs.lemmas.Bool.Decides.{nat_tests}
use Rattle.nr_vectors.specs.Items.{Items}
use Rattle.tbl_columns.specs.declared.grid.Cell.{Cell}
use Rattle.tbl_columns.specs.declared.grid.Column.{Column}
use Rattle.tbl_columns.specs.declared.grid.Grid.{Grid}
use Rattle.tbl_columns.specs.Cells.{Placing, columns_over, field_given, goes_on, goes_over, gone_on_at, is_across, last_of, new_cell, placed_at, placed_field, placed_next, placing}
use Rattle.tbl_columns.specs.Held.{cell_number, cell_of, columns, no_cell, number_place}
use Rattle.tbl_table.specs.declared.table.Field.{Field}
use Rattle.tbl_table.specs.declared.table.Key.{Key}
use Rattle.tbl_table.specs.declared.table.Line.{Line}
use Rattle.tbl_table.specs.declared.table.Row.{Row}
use Rattle.tbl_table.specs.Held.{key, line}
use Rattle.tbl_table.specs.Lists.{added, added_each, in_turn}
use Rattle.tbl_table.specs.Sums.{sum}
use Rattle.tbl_drawing.proofs.Below.{below_by, below_or, by_cases, not_below_by, two}

abbrev pub most : ℕ
most = 18446744073709551615

abbrev pub entry : Items ℕ → ℕ → ℕ
entry g i = get_or g.items i 0

-- ---- so many entries more, those before as they were

pub record Grows (old new : Items ℕ) (m : ℕ) : Type 0 where
  pub count : length new.items ≡ length old.items + m
  pub room : new.capacity ≡ old.capacity
  pub kept : (i : ℕ) → i < length old.items → entry new i ≡ entry old i

added_entry : (x : ℕ) (xs : Items ℕ) → length xs.items < xs.capacity → (added x xs).items ≡ xs.items ++ x ∷ []
added_entry x xs h = fits (nat_lt (length xs.items) xs.capacity) (grind (arith, nat_tests, h))
  where
    fits : (b : Bool) → b ≡ true → (if b then xs.items ++ x ∷ [] else xs.items) ≡ xs.items ++ x ∷ []
    fits true e = refl
    fits false e = cc

grows_none : (xs : Items ℕ) → Grows xs xs 0
grows_none xs = record { count = omega arith; room = refl; kept = λ i h. refl }

grows_one : (x : ℕ) (xs : Items ℕ) → length xs.items < xs.capacity → Grows xs (added x xs) 1
grows_one x xs h =
    let is : (added x xs).items ≡ xs.items ++ x ∷ [] = added_entry x xs h in
    record {
      count = ap length is ∙ length-append xs.items (x ∷ []);
      room = refl;
      kept = λ i less. ap (λ (l : List ℕ). get_or l i 0) is ∙ get_or-append xs.items (x ∷ []) 0 i less;
    }

grows_then : (a b c : Items ℕ) (m n k : ℕ) → m + n ≡ k → Grows a b m → Grows b c n → Grows a c k
grows_then a b c m n k e p q = record {
  count = omega (arith, e, p.count, q.count);
  room = q.room ∙ p.room;
  kept = λ i less. q.kept i (omega (arith, less, p.count)) ∙ p.kept i less;
}

grows_each : (m x : ℕ) (xs : Items ℕ) → length xs.items + m ≤ xs.capacity → Grows xs (added_each m x xs) m
grows_each zero x xs h = grows_none xs
grows_each (suc m) x xs h =
    let ys : Items ℕ = added_each m x xs in
    let before : Grows xs ys m = grows_each m x xs (omega (arith, h)) in
    grows_then xs ys (added x ys) m 1 (suc m) (omega arith) before (grows_one x ys (omega (arith, h, before.count, before.room)))

each_first : (m x : ℕ) (xs : Items ℕ) → length xs.items + suc m ≤ xs.capacity → entry (added_each (suc m) x xs) (length xs.items) ≡ x
each_first zero x xs h =
    ap (λ (l : List ℕ). get_or l (length xs.items) 0) (added_entry x xs (omega (arith, h))) ∙ get_or-append_seam xs.items x [] 0
each_first (suc m) x xs h =
    let ys : Items ℕ = added_each (suc m) x xs in
    let before : Grows xs ys (suc m) = grows_each (suc m) x xs (omega (arith, h)) in
    let now : Grows ys (added x ys) 1 = grows_one x ys (omega (arith, h, before.count, before.room)) in
    now.kept (length xs.items) (omega (arith, before.count)) ∙ each_first m x xs (omega (arith, h))

-- ---- a row while it is placed: its fields begin in columns that are covered so far

abbrev pub Mine : Grid → ℕ → ℕ → Grid → ℕ → Type 0
Mine b n next t f =
    ((cell_of t f).top ≡ n) × ((cell_of t f).first < next) × (entry t.numbers (length b.numbers.items + (cell_of t f).first) ≡ f)

-- a column has a number of the row's own, or that of the row above
abbrev pub Copied : Grid → ℕ → Grid → ℕ → Type 0
Copied b n t c =
    (length b.cells.items ≤ entry t.numbers (length b.numbers.items + c))
    ⊎ ((0 < n) × (entry t.numbers (length b.numbers.items + c) ≡ entry b.numbers (length b.numbers.items + c - columns b)))

-- a field of the row alone
abbrev pub Narrow : Grid → Cell → Type 0
Narrow b x = (x.first ≤ x.last) × (x.last < columns b)

abbrev pub Alone : Grid → ℕ → Grid → ℕ → Type 0
Alone b n t f = ((cell_of t f).bottom ≡ n) × Narrow b (cell_of t f)

pub record Partly (b : Grid) (n next : ℕ) (t : Grid) : Type 0 where
  pub heads : t.columns ≡ b.columns
  pub table : t.table ≡ b.table
  pub rows : t.placed ≡ b.placed
  pub grid : Grows b.numbers t.numbers next
  pub more : length b.cells.items ≤ length t.cells.items
  pub tops : (f : ℕ) → f < length b.cells.items → (cell_of t f).top ≡ (cell_of b f).top
  pub firsts : (f : ℕ) → f < length b.cells.items → (cell_of t f).first ≡ (cell_of b f).first
  pub lasts : (f : ℕ) → f < length b.cells.items → (cell_of t f).last ≡ (cell_of b f).last
  pub mine : (f : ℕ) → length b.cells.items ≤ f → f < length t.cells.items → Mine b n next t f
  pub alone : (f : ℕ) → length b.cells.items ≤ f → f < length t.cells.items → Alone b n t f
  pub copied : (c : ℕ) → c < next → Copied b n t c

-- only the grid is another
record Went (t u : Grid) (m : ℕ) : Type 0 where
  heads : u.columns ≡ t.columns
  table : u.table ≡ t.table
  rows : u.placed ≡ t.placed
  cells : u.cells ≡ t.cells
  grid : Grows t.numbers u.numbers m

went_down : (n first m : ℕ) (t : Grid) → length t.numbers.items + m ≤ t.numbers.capacity
    → Went t (in_turn m (λ i. gone_on_at n (first + i)) t) m
went_down n first zero t h =
    record { heads = refl; table = refl; rows = refl; cells = refl; grid = grows_none t.numbers }
went_down n first (suc m) t h =
    let u : Grid = in_turn m (λ i. gone_on_at n (first + i)) t in
    let w : Went t u m = went_down n first m t (omega (arith, h)) in
    let x : ℕ = cell_number u (n - 1) (first + m) in
    record {
      heads = w.heads;
      table = w.table;
      rows = w.rows;
      cells = w.cells;
      grid =
          grows_then t.numbers u.numbers (added x u.numbers) m 1 (suc m) (omega arith) w.grid
          (grows_one x u.numbers (omega (arith, h, w.grid.count, w.grid.room)));
    }

pub kept_copied : (b : Grid) (n c : ℕ) (t u : Grid) → entry u.numbers (length b.numbers.items + c) ≡ entry t.numbers (length b.numbers.items + c)
    → Copied b n t c → Copied b n u c
kept_copied b n c t u e h =
    elim h [
      | inl own ↦ inl (let same : entry u.numbers (length b.numbers.items + c) ≡ entry t.numbers (length b.numbers.items + c) = e in omega (arith, own, same))
      | inr down ↦ inr (down.0, e ∙ down.1)
    ]

-- more columns are covered
more_copied : (b : Grid) (n next m : ℕ) (t u : Grid) → length t.numbers.items ≡ length b.numbers.items + next → Grows t.numbers u.numbers m
    → ((c : ℕ) → c < next → Copied b n t c) → ((i : ℕ) → i < m → Copied b n u (next + i)) → (c : ℕ) → c < next + m → Copied b n u c
more_copied b n next m t u count g before now c less =
    elim (below_or c next) [
      | inl low ↦ kept_copied b n c t u (g.kept (length b.numbers.items + c) (omega (arith, low, count))) (before c low)
      | inr high ↦
          (let e : next + (c - next) ≡ c = omega (arith, high) in
          subst (λ (i : ℕ). Copied b n u i) e (now (c - next) (omega (arith, less, high))))
    ]

partly_went : (b : Grid) (n next m : ℕ) (t u : Grid) → Partly b n next t → Went t u m → ((i : ℕ) → i < m → Copied b n u (next + i))
    → Partly b n (next + m) u
partly_went b n next m t u p w copied =
    let same : (f : ℕ) → cell_of u f ≡ cell_of t f = λ f. ap (λ (cs : Items Cell). get_or cs.items f no_cell) w.cells in
    record {
      heads = w.heads ∙ p.heads;
      table = w.table ∙ p.table;
      rows = w.rows ∙ p.rows;
      grid = grows_then b.numbers t.numbers u.numbers next m (next + m) refl p.grid w.grid;
      more = omega (arith, p.more, ap (λ (cs : Items Cell). length cs.items) w.cells);
      tops = λ f less. ap (λ (c : Cell). c.top) (same f) ∙ p.tops f less;
      firsts = λ f less. ap (λ (c : Cell). c.first) (same f) ∙ p.firsts f less;
      mine = λ f low less.
          let my : Mine b n next t f = p.mine f low (omega (arith, less, ap (λ (cs : Items Cell). length cs.items) w.cells)) in
          let first : (cell_of u f).first ≡ (cell_of t f).first = ap (λ (c : Cell). c.first) (same f) in (
            ap (λ (c : Cell). c.top) (same f) ∙ my.0,
            omega (arith, first, my.1),
            ap (λ (i : ℕ). entry u.numbers (length b.numbers.items + i)) first
                ∙ w.grid.kept (length b.numbers.items + (cell_of t f).first) (omega (arith, my.1, p.grid.count))
                ∙ my.2,
          );
      lasts = λ f less. ap (λ (c : Cell). c.last) (same f) ∙ p.lasts f less;
      alone = λ f low less.
          let a : Alone b n t f = p.alone f low (omega (arith, less, ap (λ (cs : Items Cell). length cs.items) w.cells)) in
          subst (λ (c : Cell). (c.bottom ≡ n) × Narrow b c) (sym (same f)) a;
      copied = more_copied b n next m t u p.grid.count w.grid p.copied copied;
    }

-- a field is placed in the next columns, if there is room for it
each_is : (m x : ℕ) (xs : Items ℕ) → length xs.items + m ≤ xs.capacity → (i : ℕ) → i < m → entry (added_each m x xs) (length xs.items + i) ≡ x
each_is zero x xs h i less = absurd (none i less)
  where
    none : (i : ℕ) → i < 0 → ⊥
    none i less = omega (arith, less)
each_is (suc m) x xs h i less =
    let ys : Items ℕ = added_each m x xs in
    let before : Grows xs ys m = grows_each m x xs (omega (arith, h)) in
    let room : length ys.items < ys.capacity = omega (arith, h, before.count, before.room) in
    let now : Grows ys (added x ys) 1 = grows_one x ys room in
    elim (two i m (omega (arith, less))) [
      | inl low ↦ now.kept (length xs.items + i) (omega (arith, low, before.count)) ∙ each_is m x xs (omega (arith, h)) i low
      | inr last ↦
          (let at : length xs.items + i ≡ length ys.items = omega (arith, last, before.count) in
          ap (entry (added x ys)) at ∙ ap (λ (l : List ℕ). get_or l (length ys.items) 0) (added_entry x ys room) ∙ get_or-append_seam ys.items x [] 0)
    ]

-- a row's own number stands in columns
own_copied : (b : Grid) (n next m x : ℕ) (t u : Grid) → length t.numbers.items ≡ length b.numbers.items + next → length b.cells.items ≤ x
    → length t.numbers.items + m ≤ t.numbers.capacity → u.numbers ≡ added_each m x t.numbers → (i : ℕ) → i < m → Copied b n u (next + i)
own_copied b n next m x t u count own room is i less =
    let at : length b.numbers.items + (next + i) ≡ length t.numbers.items + i = omega (arith, count) in
    let e : entry u.numbers (length b.numbers.items + (next + i)) ≡ x =
    ap (λ (xs : Items ℕ). entry xs (length b.numbers.items + (next + i))) is ∙ ap (entry (added_each m x t.numbers)) at ∙ each_is m x t.numbers room i less in
    inl (omega (arith, e, own))

one_placed : (b : Grid) (n c m : ℕ) (x : Cell) (t : Grid) → Partly b n c t → x.top ≡ n → x.first ≡ c → x.bottom ≡ n → Narrow b x
    → length t.numbers.items + suc m ≤ t.numbers.capacity
    → Partly b n (c + suc m) (record t { cells = record t.cells { items = t.cells.items ++ x ∷ [] }; numbers = added_each (suc m) (length t.cells.items) t.numbers })
one_placed b n c m x t p top first bottom wide h =
    let number : ℕ = length t.cells.items in
    let w : Grid = record t { cells = record t.cells { items = t.cells.items ++ x ∷ [] }; numbers = added_each (suc m) number t.numbers } in
    let grown : Grows t.numbers w.numbers (suc m) = grows_each (suc m) number t.numbers h in
    let longer : length w.cells.items ≡ number + 1 = length-append t.cells.items (x ∷ []) in
    let old : (f : ℕ) → f < number → cell_of w f ≡ cell_of t f = λ f less. get_or-append t.cells.items (x ∷ []) no_cell f less in
    let last : cell_of w number ≡ x = get_or-append_seam t.cells.items x [] no_cell in
    record {
      heads = p.heads;
      table = p.table;
      rows = p.rows;
      grid = grows_then b.numbers t.numbers w.numbers c (suc m) (c + suc m) refl p.grid grown;
      more = omega (arith, p.more, longer);
      tops = λ f less. ap (λ (d : Cell). d.top) (old f (omega (arith, less, p.more))) ∙ p.tops f less;
      firsts = λ f less. ap (λ (d : Cell). d.first) (old f (omega (arith, less, p.more))) ∙ p.firsts f less;
      mine = λ f low less.
          elim (two f number (omega (arith, less, longer))) [
            | inl before ↦
                (let my : Mine b n c t f = p.mine f low before in
                let here : (cell_of w f).first ≡ (cell_of t f).first = ap (λ (d : Cell). d.first) (old f before) in (
                  ap (λ (d : Cell). d.top) (old f before) ∙ my.0,
                  omega (arith, here, my.1),
                  ap (λ (i : ℕ). entry w.numbers (length b.numbers.items + i)) here
                      ∙ grown.kept (length b.numbers.items + (cell_of t f).first) (omega (arith, my.1, p.grid.count))
                      ∙ my.2,
                ))
            | inr same ↦
                (let it : cell_of w f ≡ x = ap (cell_of w) same ∙ last in
                let here : (cell_of w f).first ≡ c = ap (λ (d : Cell). d.first) it ∙ first in
                let at : length b.numbers.items + (cell_of w f).first ≡ length t.numbers.items = omega (arith, here, p.grid.count) in (
                  ap (λ (d : Cell). d.top) it ∙ top,
                  omega (arith, here),
                  ap (entry w.numbers) at ∙ each_first m number t.numbers h ∙ sym same,
                ))
          ];
      lasts = λ f less. ap (λ (d : Cell). d.last) (old f (omega (arith, less, p.more))) ∙ p.lasts f less;
      alone = λ f low less.
          elim (two f number (omega (arith, less, longer))) [
            | inl before ↦ subst (λ (d : Cell). (d.bottom ≡ n) × Narrow b d) (sym (old f before)) (p.alone f low before)
            | inr same ↦
                (let it : cell_of w f ≡ x = ap (cell_of w) same ∙ last in
                subst (λ (d : Cell). (d.bottom ≡ n) × Narrow b d) (sym it) (bottom, wide))
          ];
      copied =
          more_copied b n c (suc m) t w p.grid.count grown p.copied
          (own_copied b n c (suc m) number t w p.grid.count p.more h refl);
    }

grid_placed : (b : Grid) (n c m x : ℕ) (t : Grid) → Partly b n c t → length b.cells.items ≤ x → length t.numbers.items + suc m ≤ t.numbers.capacity
    → Partly b n (c + suc m) (record t { numbers = added_each (suc m) x t.numbers })
grid_placed b n c m x t p own h =
    partly_went b n c (suc m) t (record t { numbers = added_each (suc m) x t.numbers }) p
    (record { heads = refl; table = refl; rows = refl; cells = refl; grid = grows_each (suc m) x t.numbers h })
    (own_copied b n c (suc m) x t (record t { numbers = added_each (suc m) x t.numbers }) p.grid.count own h refl)

cell_placed : (b : Grid) (n c m : ℕ) (x : Cell) (t : Grid) → Partly b n c t → x.top ≡ n → x.first ≡ c → x.bottom ≡ n → Narrow b x
    → length t.numbers.items + suc m ≤ t.numbers.capacity
    → Partly b n (c + suc m) (record t { cells = added x t.cells; numbers = added_each (suc m) (length t.cells.items) t.numbers })
cell_placed b n c m x t p top first bottom wide h =
    by_cases
    (λ (cs : List Cell). Partly b n (c + suc m) (record t { cells = record t.cells { items = cs }; numbers = added_each (suc m) (length t.cells.items) t.numbers }))
    (nat_lt (length t.cells.items) t.cells.capacity) (t.cells.items ++ x ∷ []) t.cells.items
    (λ e. one_placed b n c m x t p top first bottom wide h) (λ e. grid_placed b n c m (length t.cells.items) t p p.more h)

-- the last column of a field is none before its first, and none beyond those of the table
over_least : (n : ℕ) (t : Grid) (l : Line) (c : ℕ) → c ≤ goes_over n t l c
over_least zero t l c = omega arith
over_least (suc n) t l c =
    by_cases (λ (k : ℕ). c ≤ k) (is_across (key t.table l (c + 1)).kind) (goes_over n t l (c + 1)) c
    (λ e. let h : c + 1 ≤ goes_over n t l (c + 1) = over_least n t l (c + 1) in omega (arith, h)) (λ e. omega arith)

over_most : (n : ℕ) (t : Grid) (l : Line) (c : ℕ) → goes_over n t l c ≤ c + n
over_most zero t l c = omega arith
over_most (suc n) t l c =
    by_cases (λ (k : ℕ). k ≤ c + suc n) (is_across (key t.table l (c + 1)).kind) (goes_over n t l (c + 1)) c
    (λ e. let h : goes_over n t l (c + 1) ≤ c + 1 + n = over_most n t l (c + 1) in omega (arith, h)) (λ e. omega arith)

-- fields from above are as they were
abbrev pub Olds : Grid → Grid → Type 0
Olds b t = (f : ℕ) → f < length b.cells.items → cell_of t f ≡ cell_of b f

-- all columns before this one are covered
record Filling (b : Grid) (n c : ℕ) (p : Placing) : Type 0 where
  partly : Partly b n p.next p.grid
  olds : Olds b p.grid
  covers : c ≤ p.next
  within : p.next ≤ columns b

-- a row has room in the grid
abbrev pub HasRoom : Grid → Type 0
HasRoom b = (length b.numbers.items + columns b ≤ b.numbers.capacity) × (b.numbers.capacity ≤ most)

-- the next columns are covered by the field above, or by one of the row
pub one_less : (n w : ℕ) → 0 < n → n * w ≡ (n - 1) * w + w
one_less zero w h = absurd (let no : ⊥ = omega (arith, h) in no)
one_less (suc n) w h =
    let e : n ≡ suc n - 1 = omega arith in
    subst (λ (k : ℕ). suc n * w ≡ k * w + w) e (let is : suc n * w ≡ n * w + w = omega arith in is)

-- what stands above
went_entries : (n first m : ℕ) (t : Grid) → length t.numbers.items + m ≤ t.numbers.capacity
    → ((i : ℕ) → i < m → number_place t (n - 1) (first + i) < length t.numbers.items)
    → (i : ℕ) → i < m → entry (in_turn m (λ k. gone_on_at n (first + k)) t).numbers (length t.numbers.items + i) ≡ cell_number t (n - 1) (first + i)
went_entries n first zero t h above i less = absurd (let no : ⊥ = omega (arith, less) in no)
went_entries n first (suc m) t h above i less =
    let u : Grid = in_turn m (λ k. gone_on_at n (first + k)) t in
    let w : Went t u m = went_down n first m t (omega (arith, h)) in
    let x : ℕ = cell_number u (n - 1) (first + m) in
    let room : length u.numbers.items < u.numbers.capacity = omega (arith, h, w.grid.count, w.grid.room) in
    let now : Grows u.numbers (added x u.numbers) 1 = grows_one x u.numbers room in
    elim (two i m (omega (arith, less))) [
      | inl low ↦ now.kept (length t.numbers.items + i) (omega (arith, low, w.grid.count))
          ∙ went_entries n first m t (omega (arith, h)) (λ j under. above j (omega (arith, under))) i low
      | inr last ↦
          (let at : length t.numbers.items + i ≡ length u.numbers.items = omega (arith, last, w.grid.count) in
          let same : number_place u (n - 1) (first + m) ≡ number_place t (n - 1) (first + m) =
          ap (λ (xs : Items Column). sum (min ((n - 1) * length xs.items) most) (first + m)) w.heads in
          ap (entry (added x u.numbers)) at ∙ ap (λ (l : List ℕ). get_or l (length u.numbers.items) 0) (added_entry x u.numbers room)
          ∙ get_or-append_seam u.numbers.items x [] 0
          ∙ ap (entry u.numbers) same ∙ w.grid.kept (number_place t (n - 1) (first + m)) (above m (omega arith))
          ∙ ap (λ (k : ℕ). cell_number t (n - 1) (first + k)) (sym last))
    ]

-- where the row begins in the grid
abbrev pub Starts : Grid → ℕ → Type 0
Starts b n = length b.numbers.items ≡ n * columns b

down_copied : (b : Grid) (n c m : ℕ) (t : Grid) → HasRoom b → Starts b n → 0 < n → Partly b n c t → length t.numbers.items + m ≤ t.numbers.capacity
    → c + m ≤ columns b → (i : ℕ) → i < m → Copied b n (in_turn m (λ k. gone_on_at n (c + k)) t) (c + i)
down_copied b n c m t room starts some p h inside i less =
    let w : ℕ = columns b in
    let same : columns t ≡ w = ap (λ (xs : Items Column). length xs.items) p.heads in
    let up : n * w ≡ (n - 1) * w + w = one_less n w some in
    let place : (k : ℕ) → k < m → number_place t (n - 1) (c + k) ≡ length b.numbers.items + (c + k) - w = λ k under.
    ap (λ (v : ℕ). sum (min ((n - 1) * v) most) (c + k)) same
    ∙ (let is : sum (min ((n - 1) * w) most) (c + k) ≡ length b.numbers.items + (c + k) - w = omega (arith, up, starts, room.0, room.1, under, inside) in is) in
    let before : (k : ℕ) → k < m → length b.numbers.items + (c + k) - w < length b.numbers.items = λ k under. omega (arith, up, starts, under, inside) in
    let at : length t.numbers.items + i ≡ length b.numbers.items + (c + i) = omega (arith, p.grid.count) in
    inr (
      some,
      ap (entry (in_turn m (λ k. gone_on_at n (c + k)) t).numbers) (sym at)
          ∙ went_entries n c m t h (λ k under. omega (arith, place k under, before k under, p.grid.count)) i less
          ∙ ap (entry t.numbers) (place i less)
          ∙ p.grid.kept (length b.numbers.items + (c + i) - w) (before i less),
    )

next_down : (b : Grid) (n c m : ℕ) (t : Grid) → HasRoom b → Starts b n → 0 < n → c + suc m ≤ columns b → Partly b n c t
    → length t.numbers.items + suc m ≤ t.numbers.capacity → (wide : ℕ) → wide ≡ suc m
    → Partly b n (c + suc m) (in_turn wide (λ i. gone_on_at n (c + i)) t)
next_down b n c m t room starts some inside p h wide e =
    subst (λ (k : ℕ). Partly b n (c + suc m) (in_turn k (λ i. gone_on_at n (c + i)) t)) (sym e)
    (partly_went b n c (suc m) t (in_turn (suc m) (λ i. gone_on_at n (c + i)) t) p (went_down n c (suc m) t h)
    (down_copied b n c (suc m) t room starts some p h inside))

next_own : (b : Grid) (n c m : ℕ) (x : Cell) (t : Grid) → Partly b n c t → x.top ≡ n → x.first ≡ c → x.bottom ≡ n → Narrow b x
    → length t.numbers.items + suc m ≤ t.numbers.capacity → (wide : ℕ) → wide ≡ suc m
    → Partly b n (c + suc m) (record t { cells = added x t.cells; numbers = added_each wide (length t.cells.items) t.numbers })
next_own b n c m x t p top first bottom broad h wide e =
    subst (λ (k : ℕ). Partly b n (c + suc m) (record t { cells = added x t.cells; numbers = added_each k (length t.cells.items) t.numbers })) (sym e)
    (cell_placed b n c m x t p top first bottom broad h)

left_true : (a b : Bool) → (a && b) ≡ true → a ≡ true
left_true true b h = refl
left_true false b h = h

next_placed : (b : Grid) (n : ℕ) (r : Row) (given c last : ℕ) (t : Grid) → HasRoom b → Starts b n → Partly b n c t → c ≤ last → last < columns b
    → Partly b n (sum last 1) (placed_next n r given c last t)
next_placed b n r given c last t room starts p least inside =
    let k : Key = key t.table (line t.table r.line) c in
    let f : Field = field_given t r given in
    let wide : columns_over c last ≡ suc (last - c) = omega (arith, least, inside, room.0, room.1) in
    let upto : c + suc (last - c) ≡ sum last 1 = omega (arith, least, inside, room.0, room.1) in
    let fits : length t.numbers.items + suc (last - c) ≤ t.numbers.capacity =
    omega (arith, least, inside, room.0, p.grid.count, p.grid.room) in
    subst (λ (w : ℕ). Partly b n w (placed_next n r given c last t)) upto
    (by_cases (Partly b n (c + suc (last - c))) (nat_lt 0 n && goes_on k f)
    (in_turn (columns_over c last) (λ i. gone_on_at n (c + i)) t) (placed_field n k f c last t)
    (λ e. next_down b n c (last - c) t room starts (below_by 0 n (left_true (nat_lt 0 n) (goes_on k f) e)) (omega (arith, least, inside)) p fits (columns_over c last) wide)
    (λ e. next_own b n c (last - c) (new_cell t n k f c last) t p refl refl refl (least, inside) fits (columns_over c last) wide))

gone_same : (n first m : ℕ) (t : Grid) → (in_turn m (λ i. gone_on_at n (first + i)) t).cells ≡ t.cells
gone_same n first zero t = refl
gone_same n first (suc m) t = gone_same n first m t

pub added_old : (x : Cell) (xs : Items Cell) (f : ℕ) → f < length xs.items → get_or (added x xs).items f no_cell ≡ get_or xs.items f no_cell
added_old x xs f less =
    by_cases (λ (cs : List Cell). get_or cs f no_cell ≡ get_or xs.items f no_cell) (nat_lt (length xs.items) xs.capacity) (xs.items ++ x ∷ []) xs.items
    (λ e. get_or-append xs.items (x ∷ []) no_cell f less) (λ e. refl)

next_olds : (b : Grid) (n : ℕ) (r : Row) (given c last : ℕ) (t : Grid) → length b.cells.items ≤ length t.cells.items → Olds b t
    → Olds b (placed_next n r given c last t)
next_olds b n r given c last t more o =
    let k : Key = key t.table (line t.table r.line) c in
    let f : Field = field_given t r given in
    by_cases (Olds b) (nat_lt 0 n && goes_on k f)
    (in_turn (columns_over c last) (λ i. gone_on_at n (c + i)) t) (placed_field n k f c last t)
    (λ e. λ i less. ap (λ (cs : Items Cell). get_or cs.items i no_cell) (gone_same n c (columns_over c last) t) ∙ o i less)
    (λ e. λ i less. added_old (new_cell t n k f c last) t.cells i (omega (arith, less, more)) ∙ o i less)

column_placed : (b : Grid) (n : ℕ) (r : Row) (c : ℕ) (p : Placing) → HasRoom b → Starts b n → c < columns b → Filling b n c p
    → Filling b n (suc c) (placed_at n r c p)
column_placed b n r c p room starts inside f =
    let last : ℕ = last_of p.grid r c in
    let same : columns p.grid ≡ columns b = ap (λ (xs : Items Column). length xs.items) f.partly.heads in
    let least : c ≤ last = over_least (columns p.grid - (c + 1)) p.grid (line p.grid.table r.line) c in
    let upmost : last ≤ c + (columns p.grid - (c + 1)) = over_most (columns p.grid - (c + 1)) p.grid (line p.grid.table r.line) c in
    let there : last < columns b = omega (arith, upmost, same, inside) in
    by_cases (Filling b n (suc c)) (nat_lt c p.next) p (record {
      grid = placed_next n r p.given c last p.grid;
      given = min (sum p.given 1) r.«end»;
      next = sum last 1;
    })
    (λ e. let h : c < p.next = below_by c p.next e in record { partly = f.partly; olds = f.olds; covers = omega (arith, h); within = f.within })
    (λ e.
    let h : p.next ≤ c = not_below_by c p.next e in
    let here : p.next ≡ c = omega (arith, h, f.covers) in
    record {
      partly = next_placed b n r p.given c last p.grid room starts (subst (λ (m : ℕ). Partly b n m p.grid) here f.partly) least there;
      olds = next_olds b n r p.given c last p.grid f.partly.more f.olds;
      covers = omega (arith, least, there, room.0, room.1);
      within = omega (arith, there);
    })

partly_none : (b : Grid) (n : ℕ) → Partly b n 0 b
partly_none b n = record {
  heads = refl;
  table = refl;
  rows = refl;
  grid = grows_none b.numbers;
  more = omega arith;
  tops = λ f less. refl;
  firsts = λ f less. refl;
  lasts = λ f less. refl;
  mine = λ f low less. absurd (none (length b.cells.items) f low less);
  alone = λ f low less. absurd (none (length b.cells.items) f low less);
  copied = λ c less. absurd (let no : ⊥ = omega (arith, less) in no);
}
  where
    none : (m f : ℕ) → m ≤ f → f < m → ⊥
    none m f low less = omega (arith, low, less)

columns_placed : (b : Grid) (n : ℕ) (r : Row) (c : ℕ) → HasRoom b → Starts b n → c ≤ columns b → Filling b n c (placing c n r b)
columns_placed b n r zero room starts h = record { partly = partly_none b n; olds = λ f less. refl; covers = omega arith; within = omega arith }
columns_placed b n r (suc c) room starts h =
    column_placed b n r c (placing c n r b) room starts (omega (arith, h)) (columns_placed b n r c room starts (omega (arith, h)))

pub row_filled : (b : Grid) (n : ℕ) (r : Row) → HasRoom b → Starts b n → Partly b n (columns b) (placing (columns b) n r b).grid
row_filled b n r room starts =
    let f : Filling b n (columns b) (placing (columns b) n r b) = columns_placed b n r (columns b) room starts (omega arith) in
    let all : (placing (columns b) n r b).next ≡ columns b = omega (arith, f.covers, f.within) in
    subst (λ (k : ℕ). Partly b n k (placing (columns b) n r b).grid) all f.partly

pub row_olds : (b : Grid) (n : ℕ) (r : Row) → HasRoom b → Starts b n → Olds b (placing (columns b) n r b).grid
row_olds b n r room starts = (columns_placed b n r (columns b) room starts (omega arith)).olds
