-- When a table without blocks is measured nothing of it changes but its columns: they are as many.
use Rattle.std.proofs.Common.{◌≡◌, ℕ, zero, suc, ◌+◌, ◌-◌, List, [], ◌∷◌, ◌++◌, length, Bool, true, false, ◌==◌, ◌&&◌, not, if◌then◌else◌, nat_lt, get_or, refl, sym, ◌∙◌, ap, subst, length-set}
use Rattle.tbl_columns.specs.declared.grid.Cell.{Cell}
use Rattle.tbl_columns.specs.declared.grid.Column.{Column}
use Rattle.tbl_columns.specs.declared.grid.Grid.{Grid}
use Rattle.tbl_columns.specs.Cells.{columns_over}
use Rattle.tbl_columns.specs.Columns.{Dealing, dealing, dealt_at, equal_column, prefix_cells, is_alpha, is_number, left_for, made_equal, measured_cell, measured_cells, measured_fields, measured_spans, measures, needs, settled_column, settled_columns, span_width, spanned_cell, spans, widened, wider, widest_equal, with_field, with_width}
use Rattle.tbl_columns.specs.Counted.{as_wide, with_alpha, with_number, with_text}
use Rattle.tbl_columns.specs.Frames.{Laying, laid, laid_at, laid_out, laying, left_edge}
use Rattle.tbl_columns.specs.Held.{cell_of, column, columns, fresh}
use Rattle.tbl_columns.specs.Measured.{by_blocks, by_fields, line_shared, measured_columns, measured_table}
use Rattle.tbl_columns.specs.Narrow.{is_too_wide, made_narrow}
use Rattle.tbl_columns.specs.Shares.{count_wide, line_room, shared_columns, shared_gaps}
use Rattle.tbl_columns.specs.Frames.{table_end}
use Rattle.tbl_columns.specs.Texts.{filled_blocks, filled_some}
use Rattle.tbl_columns.proofs.Turns.{if_same, set_has, set_same, turn_has}
use Rattle.tbl_table.specs.Lists.{in_turn, put}
use Rattle.tbl_table.specs.Sums.{sum}
use Rattle.tbl_laws.proofs.ReadColumns.{many}

-- no column is one of x
abbrev pub NoneWide : Grid → Type 0
NoneWide g = (c : ℕ) → (column g c).wide ≡ false

-- only the columns are others, as many
pub record Alike (t u : Grid) : Type 0 where
  pub same : u ≡ record t { columns = u.columns }
  pub count : columns u ≡ columns t
  pub narrow : NoneWide t → NoneWide u
  pub equal : (c : ℕ) → (column u c).equal ≡ (column t c).equal

alike_itself : (t : Grid) → Alike t t
alike_itself t = record { same = refl; count = refl; narrow = λ h. h; equal = λ c. refl }

alike_then : (a b c : Grid) → Alike a b → Alike b c → Alike a c
alike_then a b c p q = record {
  same = q.same ∙ ap (λ (x : Grid). record x { columns = c.columns }) p.same;
  count = q.count ∙ p.count;
  narrow = λ h. q.narrow (p.narrow h);
  equal = λ n. q.equal n ∙ p.equal n;
}

alike_put : (c : ℕ) (x : Column) (t : Grid) → x.wide ≡ (column t c).wide → x.equal ≡ (column t c).equal → Alike t (record t { columns = put c x t.columns })
alike_put c x t is same = record {
  same = refl;
  count = length-set t.columns.items c x;
  narrow = λ h i. set_has (λ (y : Column). y.wide ≡ false) t.columns.items c x fresh i (h i) (λ e. is ∙ h c);
  equal = set_same (λ (y : Column). y.equal) t.columns.items c x fresh same;
}

alike_if : (b : Bool) (t x y : Grid) → Alike t x → Alike t y → Alike t (if b then x else y)
alike_if true t x y h k = h
alike_if false t x y h k = k

alike_turn : (f : ℕ → Grid → Grid) → ((n : ℕ) (x : Grid) → Alike x (f n x)) → (k : ℕ) (t : Grid) → Alike t (in_turn k f t)
alike_turn f each k t = turn_has (Alike t) f (λ n x h. alike_then t x (f n x) h (each n x)) k t (alike_itself t)

field_wide : (t : Grid) (f : Cell) (c : Column) → (with_field t f c).wide ≡ c.wide
field_wide t f c =
    if_same (λ (x : Column). x.wide) (is_alpha f) (with_alpha f.width c) (if is_number f then with_number f.width (prefix_cells t f) c else with_text f.width c) c.wide refl
    (if_same (λ (x : Column). x.wide) (is_number f) (with_number f.width (prefix_cells t f) c) (with_text f.width c) c.wide refl refl)

field_equal : (t : Grid) (f : Cell) (c : Column) → (with_field t f c).equal ≡ c.equal
field_equal t f c =
    if_same (λ (x : Column). x.equal) (is_alpha f) (with_alpha f.width c) (if is_number f then with_number f.width (prefix_cells t f) c else with_text f.width c) c.equal refl
    (if_same (λ (x : Column). x.equal) (is_number f) (with_number f.width (prefix_cells t f) c) (with_text f.width c) c.equal refl refl)

cell_alike : (n : ℕ) (t : Grid) → Alike t (measured_cell n t)
cell_alike n t =
    let f : Cell = cell_of t n in
    let x : Column = with_field t f (column t f.first) in
    alike_if (measures f && not (spans f)) t (record t { columns = put f.first x t.columns }) t (alike_put f.first x t (field_wide t f (column t f.first)) (field_equal t f (column t f.first))) (alike_itself t)

equal_alike : (width n : ℕ) (t : Grid) → Alike t (equal_column width n t)
equal_alike width n t =
    let x : Column = with_width width (column t n) in
    alike_if (column t n).equal t (record t { columns = put n x t.columns }) t (alike_put n x t refl refl) (alike_itself t)

all_equal_alike : (t : Grid) → Alike t (made_equal t)
all_equal_alike t = alike_turn (equal_column (widest_equal t)) (equal_alike (widest_equal t)) (columns t) t

dealt_alike : (whole all last first k : ℕ) (d : Dealing) → Alike d.grid (in_turn k (λ n. dealt_at whole all last (first + n)) d).grid
dealt_alike whole all last first k d =
    turn_has (λ (x : Dealing). Alike d.grid x.grid) (λ n. dealt_at whole all last (first + n))
    (λ n x h.
    alike_then d.grid x.grid (dealt_at whole all last (first + n) x).grid h
    (alike_put (first + n) (wider (x.rest - left_for whole all (last - (first + n))) (column x.grid (first + n))) x.grid refl refl))
    k d (alike_itself d.grid)

span_alike : (n : ℕ) (t : Grid) → Alike t (spanned_cell n t)
span_alike n t =
    let f : Cell = cell_of t n in
    let whole : ℕ = needs f - span_width t f.first f.last in
    alike_if (measures f && spans f) t (widened f.first f.last (needs f) t) t
    (dealt_alike whole (columns_over f.first f.last) f.last f.first (columns_over f.first f.last) (dealing t whole)) (alike_itself t)

fields_alike : (t : Grid) → Alike t (measured_fields t)
fields_alike t =
    alike_then t (measured_cells t) (settled_columns (measured_cells t)) (alike_turn measured_cell cell_alike (length t.cells.items) t)
    (alike_turn settled_column (λ n x. alike_put n (as_wide (column x n)) x refl refl) (columns (measured_cells t)) (measured_cells t))

pub by_fields_alike : (t : Grid) → Alike t (by_fields t)
by_fields_alike t =
    let a : Grid = measured_fields t in
    let b : Grid = made_equal a in
    let c : Grid = measured_spans b in
    alike_then t a (made_equal c) (fields_alike t)
    (alike_then a b (made_equal c) (all_equal_alike a)
    (alike_then b c (made_equal c) (alike_turn spanned_cell span_alike (length b.cells.items) b) (all_equal_alike c)))

laid_alike : (t : Grid) → Alike t (laid_out t)
laid_alike t =
    turn_has (λ (l : Laying). Alike t l.grid) laid_at
    (λ n l h. alike_then t l.grid (laid_at n l).grid h (alike_put n (laid l.place (column l.grid n)) l.grid refl refl))
    (columns t) (laying t (sum (left_edge t) t.edges.left)) (alike_itself t)

-- ---- a table without blocks, whose columns share nothing

-- what is known of a table that stays but for its columns
kept : {A : Type 0} (K : Grid → A) → ((x : Grid) (y : Grid) → K (record x { columns = y.columns }) ≡ K x) → (t u : Grid) → Alike t u → K u ≡ K t
kept K columns_apart t u h = ap K h.same ∙ columns_apart t u

no_blocks : (t : Grid) → length t.texts.items ≡ 0 → filled_blocks false t ≡ t
no_blocks t none = ap (λ (n : ℕ). if n == 0 then t else filled_some true false (filled_some false false t)) none

blocks_alike : (t : Grid) → length t.texts.items ≡ 0 → Alike t (by_blocks t)
blocks_alike t none =
    let same : by_blocks t ≡ laid_out (made_equal t) = ap (λ (x : Grid). laid_out (made_equal x)) (no_blocks t none) in
    subst (Alike t) (sym same) (alike_then t (made_equal t) (laid_out (made_equal t)) (all_equal_alike t) (laid_alike (made_equal t)))

count_none : (cs : List Column) → ((c : ℕ) → (get_or cs c fresh).wide ≡ false) → count_wide 0 cs ≡ 0
count_none [] h = refl
count_none (c ∷ cs) h = ap (λ (b : Bool). count_wide (sum 0 (if b then 1 else 0)) cs) (h 0) ∙ count_none cs (λ n. h (suc n))

pub none_shared : (t : Grid) → NoneWide t → t.table.looks.expand ≡ false → line_shared t ≡ t
none_shared t narrow expand =
    ap (λ (n : ℕ). if nat_lt 0 n then filled_blocks true (shared_columns t) else if t.table.looks.expand then shared_gaps t else t)
    (count_none t.columns.items narrow)
    ∙ ap (λ (b : Bool). if b then shared_gaps t else t) expand

pub columns_alike : (t : Grid) → length t.texts.items ≡ 0 → t.table.looks.expand ≡ false → NoneWide t → Alike t (measured_columns t)
columns_alike t none expand narrow =
    let a : Grid = by_fields t in
    let b : Grid = by_blocks a in
    let to_a = by_fields_alike t in
    let to_b = alike_then t a b to_a (blocks_alike a (kept (λ (x : Grid). length x.texts.items) (λ x y. refl) t a to_a ∙ none)) in
    let same : measured_columns t ≡ laid_out b =
    ap laid_out (none_shared b (to_b.narrow narrow) (kept (λ (x : Grid). x.table.looks.expand) (λ x y. refl) t b to_b ∙ expand)) in
    subst (Alike t) (sym same) (alike_then t b (laid_out b) to_b (laid_alike b))

-- it is not narrowed
pub table_alike : (t : Grid) → length t.texts.items ≡ 0 → t.table.looks.expand ≡ false → NoneWide t → is_too_wide (measured_columns t) ≡ false
    → Alike t (measured_table t)
table_alike t none expand narrow stays =
    let m : Grid = measured_columns t in
    let same : measured_table t ≡ m = ap (λ (b : Bool). if b then made_narrow (sum (table_end m) 1 - line_room m) m else m) stays in
    subst (Alike t) (sym same) (columns_alike t none expand narrow)

-- ---- columns that nothing is said of

fresh_then : (xs : List Column) (c : ℕ) → ((k : ℕ) → (get_or xs k fresh).wide ≡ false) → (get_or (xs ++ fresh ∷ []) c fresh).wide ≡ false
fresh_then [] zero h = refl
fresh_then [] (suc c) h = refl
fresh_then (x ∷ xs) zero h = h 0
fresh_then (x ∷ xs) (suc c) h = fresh_then xs c (λ k. h (suc k))

pub none_wide : (n c : ℕ) → (get_or (many n fresh) c fresh).wide ≡ false
none_wide zero c = refl
none_wide (suc n) c = fresh_then (many n fresh) c (λ k. none_wide n k)
