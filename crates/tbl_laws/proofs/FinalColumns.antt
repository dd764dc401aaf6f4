-- Columns become no narrower, once their fields have measured them, until the table is narrowed.
use Rattle.std.proofs.Common.{◌≡◌, ℕ, zero, suc, ◌+◌, ◌-◌, ◌≤◌, max, length, Bool, true, false, ◌==◌, ◌&&◌, if◌then◌else◌, nat_lt, get_or, refl, sym, ◌∙◌, ap, subst, arith, length-set}
use Rattle.std.specs.Prelude.{None, Option, Some}
use Rattle.nr_vectors.specs.Items.{Items}
use Rattle.tbl_columns.specs.declared.grid.Cell.{Cell}
use Rattle.tbl_columns.specs.declared.grid.Column.{Column}
use Rattle.tbl_columns.specs.declared.grid.Grid.{Grid}
use Rattle.tbl_columns.specs.Cells.{columns_over}
use Rattle.tbl_columns.specs.Columns.{Dealing, dealing, dealt_at, equal_column, left_for, made_equal, needs, span_width, spans, together, widened, wider, widest_equal, with_width}
use Rattle.tbl_columns.specs.Frames.{Laying, laid, laid_at, laid_out, laying, left_edge, table_end}
use Rattle.tbl_columns.specs.Held.{cell_of, column, columns, fresh}
use Rattle.tbl_columns.specs.Measured.{by_blocks, by_fields, line_shared, measured_columns, measured_table}
use Rattle.tbl_columns.specs.Narrow.{is_too_wide, made_narrow}
use Rattle.tbl_columns.specs.Shares.{Gaps, Sharing, all_parts, edges_shared, first_sharing, gap_parts, gap_shared, gaps_shared, gaps_so_far, has_no_rest, has_wide, line_room, only_widened, share_in, share_of_gaps, shared_at, shared_column, shared_columns, shared_gap, shared_gaps, some_gaps_shared}
use Rattle.tbl_columns.specs.Texts.{counted_cell, fill_width, filled_at, filled_blocks, filled_cell, filled_in, filled_some, is_pending}
use Rattle.tbl_columns.proofs.Fits.{equal_width, fields_fit, most, width_in}
use Rattle.tbl_columns.proofs.LeastFits.{least_fits}
use Rattle.tbl_columns.proofs.SpansFit.{spans_fit, with_grows}
use Rattle.tbl_columns.proofs.Turns.{if_same, set_keeps, set_same, turn_has, turn_same}
use Rattle.tbl_table.specs.declared.table.Table.{Table}
use Rattle.tbl_table.specs.Lists.{in_turn, put}
use Rattle.tbl_table.specs.Sums.{sum}
use Rattle.tbl_laws.specs.Columns.{FieldsFitAtLast, LeastFitsAtLast, SpansFitAtLast}
use Rattle.tbl_laws.proofs.MeasuredColumns.{by_fields_alike}

-- columns that are no narrower, with the same spaces where these are to be the same
pub record Covers (same : Bool) (t u : Grid) : Type 0 where
  pub table : u.table ≡ t.table
  pub count : columns u ≡ columns t
  pub equal : (c : ℕ) → (column u c).equal ≡ (column t c).equal
  pub wide : (c : ℕ) → (column u c).wide ≡ (column t c).wide
  pub width : (c : ℕ) → width_in (column t c) ≤ width_in (column u c)
  pub gap : same ≡ true → (c : ℕ) → (column u c).gap ≡ (column t c).gap

covers_itself : (same : Bool) (t : Grid) → Covers same t t
covers_itself same t = record { table = refl; count = refl; equal = λ c. refl; wide = λ c. refl; width = λ c. omega arith; gap = λ e c. refl }

covers_then : (same : Bool) (a b c : Grid) → Covers same a b → Covers same b c → Covers same a c
covers_then same a b c p q = record {
  table = q.table ∙ p.table;
  count = q.count ∙ p.count;
  equal = λ n. q.equal n ∙ p.equal n;
  wide = λ n. q.wide n ∙ p.wide n;
  width = λ n. (let x = p.width n in let y = q.width n in omega (arith, x, y));
  gap = λ e n. q.gap e n ∙ p.gap e n;
}

covers_if : (same : Bool) (b : Bool) (t x y : Grid) → Covers same t x → Covers same t y → Covers same t (if b then x else y)
covers_if same true t x y p q = p
covers_if same false t x y p q = q

covers_as : (same : Bool) (t u : Grid) → u.table ≡ t.table → u.columns ≡ t.columns → Covers same t u
covers_as same t u table heads = record {
  table = table;
  count = ap (λ (xs : Items Column). length xs.items) heads;
  equal = λ c. ap (λ (xs : Items Column). (get_or xs.items c fresh).equal) heads;
  wide = λ c. ap (λ (xs : Items Column). (get_or xs.items c fresh).wide) heads;
  width = λ c. subst (λ (x : ℕ). width_in (column t c) ≤ x) (sym (ap (λ (xs : Items Column). width_in (get_or xs.items c fresh)) heads)) (omega arith);
  gap = λ e c. ap (λ (xs : Items Column). (get_or xs.items c fresh).gap) heads;
}

covers_put : (same : Bool) (c : ℕ) (x : Column) (t : Grid) → width_in (column t c) ≤ width_in x → (same ≡ true → x.gap ≡ (column t c).gap)
    → x.equal ≡ (column t c).equal → x.wide ≡ (column t c).wide → Covers same t (record t { columns = put c x t.columns })
covers_put same c x t wider gap equal wide = record {
  table = refl;
  count = length-set t.columns.items c x;
  equal = set_same (λ (y : Column). y.equal) t.columns.items c x fresh equal;
  wide = set_same (λ (y : Column). y.wide) t.columns.items c x fresh wide;
  width = set_keeps width_in t.columns.items c x fresh wider;
  gap = λ e. set_same (λ (y : Column). y.gap) t.columns.items c x fresh (gap e);
}

covers_turn : (same : Bool) (f : ℕ → Grid → Grid) → ((n : ℕ) (x : Grid) → Covers same x (f n x)) → (k : ℕ) (t : Grid) → Covers same t (in_turn k f t)
covers_turn same f each k t = turn_has (Covers same t) f (λ n x h. covers_then same t x (f n x) h (each n x)) k t (covers_itself same t)

-- ---- columns of e, and what is dealt out

pub equal_same : {B : Type 0} (K : Column → B) → ((width : ℕ) (x : Column) → K (with_width width x) ≡ K x) → (c width n : ℕ) (u : Grid)
    → K (column (equal_column width n u) c) ≡ K (column u c)
equal_same K each c width n u =
    if_same (λ (v : Grid). K (column v c)) (column u n).equal (record u { columns = put n (with_width width (column u n)) u.columns }) u (K (column u c))
    (set_same K u.columns.items n (with_width width (column u n)) fresh (each width (column u n)) c) refl

-- and so is all but the columns
pub equal_beside : {B : Type 0} (K : Grid → B) → ((u : Grid) (c : ℕ) (x : Column) → K (record u { columns = put c x u.columns }) ≡ K u) → (width n : ℕ) (u : Grid)
    → K (equal_column width n u) ≡ K u
equal_beside K each width n u =
    if_same K (column u n).equal (record u { columns = put n (with_width width (column u n)) u.columns }) u (K u) (each u n (with_width width (column u n))) refl

pub equal_covers : (same : Bool) (t : Grid) → Covers same t (made_equal t)
equal_covers same t =
    let w = widest_equal t in
    record {
      table = turn_same (λ (v : Grid). v.table) (equal_column w) (equal_beside (λ (v : Grid). v.table) (λ u c x. refl) w) (columns t) t;
      count = turn_same columns (equal_column w) (equal_beside columns (λ u c x. length-set u.columns.items c x) w) (columns t) t;
      equal = λ c. turn_same (λ (v : Grid). (column v c).equal) (equal_column w) (equal_same (λ (x : Column). x.equal) (λ n x. refl) c w) (columns t) t;
      wide = λ c. turn_same (λ (v : Grid). (column v c).wide) (equal_column w) (equal_same (λ (x : Column). x.wide) (λ n x. refl) c w) (columns t) t;
      width = λ c. (let least = equal_width c (width_in (column t c)) t (omega arith) in omega (arith, least));
      gap = λ e c. turn_same (λ (v : Grid). (column v c).gap) (equal_column w) (equal_same (λ (x : Column). x.gap) (λ n x. refl) c w) (columns t) t;
    }

dealt_covers : (same : Bool) (whole all last first k : ℕ) (d : Dealing) → Covers same d.grid (in_turn k (λ n. dealt_at whole all last (first + n)) d).grid
dealt_covers same whole all last first k d =
    turn_has (λ (x : Dealing). Covers same d.grid x.grid) (λ n. dealt_at whole all last (first + n))
    (λ n x h.
    let more = x.rest - left_for whole all (last - (first + n)) in
    let c = column x.grid (first + n) in
    covers_then same d.grid x.grid (dealt_at whole all last (first + n) x).grid h
    (covers_put same (first + n) (wider more c) x.grid (wider_no_less more c) (λ e. refl) refl refl))
    k d (covers_itself same d.grid)
  where
    wider_no_less : (more : ℕ) (x : Column) → width_in x ≤ width_in (wider more x)
    wider_no_less more x = omega arith

widened_covers : (same : Bool) (first last width : ℕ) (t : Grid) → Covers same t (widened first last width t)
widened_covers same first last width t =
    let whole : ℕ = width - span_width t first last in
    dealt_covers same whole (columns_over first last) last first (columns_over first last) (dealing t whole)

-- ---- blocks

filled_table : (o : Option ℕ) (n width : ℕ) (t : Grid) → (filled_in n o width t).table ≡ t.table
filled_table None n width t = refl
filled_table (Some place) n width t = refl

filled_columns : (o : Option ℕ) (n width : ℕ) (t : Grid) → (filled_in n o width t).columns ≡ t.columns
filled_columns None n width t = refl
filled_columns (Some place) n width t = refl

no_less : (n : ℕ) (c : Column) → width_in c ≤ width_in (with_width (max c.width n) c)
no_less n c = omega arith

counted_covers : (same : Bool) (n : ℕ) (t : Grid) → Covers same t (counted_cell n t)
counted_covers same n t =
    let f : Cell = cell_of t n in
    let c : Column = column t f.first in
    covers_if same (spans f) t (widened f.first f.last (needs f) t) (record t { columns = put f.first (with_width (max c.width (needs f)) c) t.columns })
    (widened_covers same f.first f.last (needs f) t) (covers_put same f.first (with_width (max c.width (needs f)) c) t (no_less (needs f) c) (λ e. refl) refl refl)

filled_covers : (same over wide : Bool) (n : ℕ) (t : Grid) → Covers same t (filled_at over wide n t)
filled_covers same over wide n t =
    let width = fill_width t (cell_of t n) in
    let u = filled_cell n width t in
    covers_if same (is_pending t (cell_of t n) over wide) t (counted_cell n u) t
    (covers_then same t u (counted_cell n u)
    (covers_as same t u (filled_table (cell_of t n).block n _ t) (filled_columns (cell_of t n).block n _ t)) (counted_covers same n u))
    (covers_itself same t)

some_covers : (same over wide : Bool) (t : Grid) → Covers same t (filled_some over wide t)
some_covers same over wide t = covers_turn same (filled_at over wide) (filled_covers same over wide) (length t.cells.items) t

pub blocks_cover : (same wide : Bool) (t : Grid) → Covers same t (filled_blocks wide t)
blocks_cover same wide t =
    let u = filled_some false wide t in
    covers_if same (length t.texts.items == 0) t t (filled_some true wide u) (covers_itself same t)
    (covers_then same t u (filled_some true wide u) (some_covers same false wide t) (some_covers same true wide u))

-- ---- places

pub laid_covers : (same : Bool) (t : Grid) → Covers same t (laid_out t)
laid_covers same t =
    turn_has (λ (l : Laying). Covers same t l.grid) laid_at
    (λ n l h. covers_then same t l.grid (laid_at n l).grid h (covers_put same n (laid l.place (column l.grid n)) l.grid (as_wide (column l.grid n)) (λ e. refl) refl refl))
    (columns t) (laying t (sum (left_edge t) t.edges.left)) (covers_itself same t)
  where
    as_wide : (c : Column) → width_in c ≤ width_in c
    as_wide c = omega arith

-- ---- shares of the line

share_covers : (same : Bool) (t : Grid) → Covers same t (shared_columns t)
share_covers same t =
    turn_has (λ (s : Sharing). Covers same t s.grid) shared_at
    (λ c s h. by_test c s h ((column s.grid c).wide && nat_lt 0 s.left))
    (columns t) (first_sharing t) (covers_itself same t)
  where
    by_test : (c : ℕ) (s : Sharing) → Covers same t s.grid → (b : Bool) → Covers same t (if b then shared_column c (share_in s.left s.rest) s else s).grid
    by_test c s h false = h
    by_test c s h true =
        (let x = column s.grid c in
        let y = with_width (max x.width (share_in s.left s.rest)) x in
        covers_then same t s.grid (record s.grid { columns = put c y s.grid.columns }) h
        (covers_put same c y s.grid (no_less (share_in s.left s.rest) x) (λ e. refl) refl refl))

-- spaces may be others
never : {A : Type 0} → false ≡ true → A
never h = absurd (let no : false ≡ true = h in cc)

gap_covers : (gaps : ℕ) (g : Grid) (alone : Bool) (t : Grid) → Covers false t (gaps_shared gaps (share_of_gaps g) alone t)
gap_covers gaps g alone t =
    turn_has (λ (p : Gaps). Covers false t p.grid) (gap_shared (share_of_gaps g) alone)
    (λ c p h.
    let x = column p.grid c in
    let y = shared_gap p.before (gap_parts alone p.before x) (share_of_gaps g) x in
    covers_then false t p.grid (record p.grid { columns = put c y p.grid.columns }) h (covers_put false c y p.grid (as_wide x) never refl refl))
    gaps (gaps_so_far t (left_edge t)) (covers_itself false t)
  where
    as_wide : (c : Column) → width_in c ≤ width_in c
    as_wide c = omega arith

gaps_cover : (t : Grid) → Covers false t (shared_gaps t)
gaps_cover t =
    let alone = all_parts t == 0 in
    let shared = gaps_shared (columns t - 1) (share_of_gaps t) alone t in
    let more = line_room t - table_end t in
    let all = gap_covers (columns t - 1) t alone t in
    covers_if false (alone && (columns t - 1 == 0)) t (only_widened t) (some_gaps_shared t)
    (covers_put false 0 (with_width (sum (column t 0).width more) (column t 0)) t (more_wide more (column t 0)) never refl refl)
    (covers_if false (has_no_rest t) t shared (edges_shared (share_of_gaps t) shared) all
    (covers_then false t shared (edges_shared (share_of_gaps t) shared) all (covers_as false shared (edges_shared (share_of_gaps t) shared) refl refl)))
  where
    more_wide : (more : ℕ) (c : Column) → width_in c ≤ width_in (with_width (sum c.width more) c)
    more_wide more c = omega arith

spread_covers : (same expands : Bool) (t : Grid) → t.table.looks.expand ≡ expands → (same ≡ true → expands ≡ false) → Covers same t (if expands then shared_gaps t else t)
spread_covers same false t e h = covers_itself same t
spread_covers true true t e h = never (sym (h refl))
spread_covers false true t e h = gaps_cover t

line_covers : (same : Bool) (t : Grid) → (same ≡ true → t.table.looks.expand ≡ false) → Covers same t (line_shared t)
line_covers same t h =
    let u = shared_columns t in
    covers_if same (has_wide t) t (filled_blocks true u) (if t.table.looks.expand then shared_gaps t else t)
    (covers_then same t u (filled_blocks true u) (share_covers same t) (blocks_cover same true u))
    (spread_covers same t.table.looks.expand t refl h)

-- ---- all of it

fields_table : (g : Grid) → (by_fields g).table ≡ g.table
fields_table g = ap (λ (x : Grid). x.table) (by_fields_alike g).same

columns_cover : (same : Bool) (g : Grid) → (same ≡ true → g.table.looks.expand ≡ false) → Covers same (by_fields g) (measured_columns g)
columns_cover same g h =
    let a = by_fields g in
    let b = filled_blocks false a in
    let c = by_blocks a in
    let d = line_shared c in
    let to_c : Covers same a c =
    covers_then same a b c (blocks_cover same false a) (covers_then same b (made_equal b) c (equal_covers same b) (laid_covers same (made_equal b))) in
    let looks : same ≡ true → c.table.looks.expand ≡ false = λ e. ap (λ (t : Table). t.looks.expand) (to_c.table ∙ fields_table g) ∙ h e in
    covers_then same a c (laid_out d) to_c (covers_then same c d (laid_out d) (line_covers same c looks) (laid_covers same d))

-- it is not narrowed
pub table_is : (g : Grid) → is_too_wide (measured_columns g) ≡ false → measured_table g ≡ measured_columns g
table_is g stays =
    let m = measured_columns g in
    ap (λ (b : Bool). if b then made_narrow (sum (table_end m) 1 - line_room m) m else m) stays

width_covers : (same : Bool) (g : Grid) (c n : ℕ) → n ≤ most → (same ≡ true → g.table.looks.expand ≡ false) → is_too_wide (measured_columns g) ≡ false
    → n ≤ (column (by_fields g) c).width → n ≤ (column (measured_table g) c).width
width_covers same g c n small h stays fits =
    subst (λ (m : Grid). n ≤ (column m c).width) (sym (table_is g stays))
    (let more = (columns_cover same g h).width c in omega (arith, more, fits, small))

needs_small : (f : Cell) → needs f ≤ most
needs_small f = omega arith

pub fields_fit_at_last : FieldsFitAtLast
fields_fit_at_last g n stays within counts alone inside =
    width_covers false g (cell_of g n).first (needs (cell_of g n)) (needs_small (cell_of g n)) never stays (fields_fit g n within counts alone inside)

pub least_fits_at_last : LeastFitsAtLast
least_fits_at_last g c stays inside small =
    width_covers false g c (max (column g c).least_cells 1) (omega (arith, small)) never stays (least_fits g c inside small)

together_grows : (n : ℕ) (t u : Grid) (first last : ℕ) → Covers true t u → together n t first last ≤ together n u first last
together_grows zero t u first last c = omega arith
together_grows (suc n) t u first last c =
    with_grows (nat_lt (first + n) last) (together n t first last) (together n u first last) (column t (first + n)) (column u (first + n))
    (together_grows n t u first last c) (c.width (first + n)) (c.gap refl (first + n))

pub spans_fit_at_last : SpansFitAtLast
spans_fit_at_last g n stays expand within counts over inside few =
    let f = cell_of g n in
    let k = columns_over f.first f.last in
    let by_them : needs f ≤ together k (by_fields g) f.first f.last = spans_fit g n within counts over inside few in
    let more : together k (by_fields g) f.first f.last ≤ together k (measured_columns g) f.first f.last =
    together_grows k (by_fields g) (measured_columns g) f.first f.last (columns_cover true g (λ e. expand)) in
    subst (λ (m : Grid). needs f ≤ span_width m f.first f.last) (sym (table_is g stays))
    (let all : needs f ≤ together k (measured_columns g) f.first f.last = omega (arith, by_them, more) in all)
