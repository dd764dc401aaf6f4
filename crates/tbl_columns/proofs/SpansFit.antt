-- A field over several columns fits in them.
use Rattle.std.proofs.Common.{◌≡◌, ℕ, zero, suc, ◌+◌, ◌-◌, ◌<◌, ◌≤◌, ◌^◌, min, Bool, true, false, ◌&&◌, nat_lt, length, get_or, refl, sym, ap, subst, arith, ◌∙◌, length-set, if◌then◌else◌}
use Rattle.std.proofs.lemmas.Bool.Decides.{nat_tests}
use Rattle.std.proofs.lemmas.List.{get_or-set_same}
use Rattle.nr_vectors.specs.Items.{Items}
use Rattle.tbl_columns.specs.declared.grid.Cell.{Cell}
use Rattle.tbl_columns.specs.declared.grid.Column.{Column}
use Rattle.tbl_columns.specs.declared.grid.Grid.{Grid}
use Rattle.tbl_columns.specs.Cells.{columns_over}
use Rattle.tbl_columns.specs.Columns.{Dealing, spans, dealing, dealt_at, equal_column, made_equal, measured_cell, measured_cells, measured_fields, measured_spans, measures, settled_column, left_for, span_width, spanned_cell, together, widened, wider, widest_equal, needs, with_column, with_field, with_width}
use Rattle.tbl_columns.specs.Counted.{as_wide}
use Rattle.tbl_columns.specs.Laws.{SpansFit}
use Rattle.tbl_columns.specs.Held.{cell_of, column, columns, fresh, no_cell}
use Rattle.tbl_table.specs.Lists.{in_turn, put}
use Rattle.tbl_columns.proofs.Fits.{equal_width, measured_same, most, spanned_width, width_in}
use Rattle.tbl_columns.proofs.Turns.{if_same, if_true, later, set_keeps, set_same, turn_same}

-- ---- columns that are no narrower, with the same spaces

record Covers (t u : Grid) : Type 0 where
  width : (c : ℕ) → width_in (column t c) ≤ width_in (column u c)
  gap : (c : ℕ) → (column u c).gap ≡ (column t c).gap

pub with_grows : (inner : Bool) (w v : ℕ) (x y : Column) → w ≤ v → width_in x ≤ width_in y → y.gap ≡ x.gap → with_column inner w x ≤ with_column inner v y
with_grows true w v x y h k e = omega (arith, h, k, e)
with_grows false w v x y h k e = omega (arith, h, k)

together_grows : (n : ℕ) (t u : Grid) (first last : ℕ) → Covers t u → together n t first last ≤ together n u first last
together_grows zero t u first last c = omega arith
together_grows (suc n) t u first last c =
    with_grows (nat_lt (first + n) last) (together n t first last) (together n u first last) (column t (first + n)) (column u (first + n))
    (together_grows n t u first last c) (c.width (first + n)) (c.gap (first + n))

-- ---- a column becomes wider

abbrev pub wider_at : ℕ → ℕ → Grid → Grid
wider_at c more t = record t { columns = put c (wider more (column t c)) t.columns }

wider_covers : (c more : ℕ) (t : Grid) → Covers t (wider_at c more t)
wider_covers c more t = record {
  width = set_keeps width_in t.columns.items c (wider more (column t c)) fresh (wider_no_less more (column t c));
  gap = set_same (λ (x : Column). x.gap) t.columns.items c (wider more (column t c)) fresh refl;
}
  where
    wider_no_less : (more : ℕ) (x : Column) → width_in x ≤ width_in (wider more x)
    wider_no_less more x = omega arith

with_more : (inner : Bool) (w v more : ℕ) (x y : Column) → min (w + more) most ≤ v → width_in x ≤ width_in y → y.gap ≡ x.gap
    → min (with_column inner w x + more) most ≤ with_column inner v y
with_more true w v more x y h k e = omega (arith, h, k, e)
with_more false w v more x y h k e = omega (arith, h, k)

with_wider : (inner : Bool) (w v more : ℕ) (x : Column) → w ≤ v → min (with_column inner w x + more) most ≤ with_column inner v (wider more x)
with_wider true w v more x h = omega (arith, h)
with_wider false w v more x h = omega (arith, h)

-- so all of them are
last_wider : (k : ℕ) (t : Grid) (first last m more : ℕ) → m < suc k → first + m < columns t
    → (m < k → min (together k t first last + more) most ≤ together k (wider_at (first + m) more t) first last)
    → (b : Bool) → nat_lt m k ≡ b → min (together (suc k) t first last + more) most ≤ together (suc k) (wider_at (first + m) more t) first last
last_wider k t first last m more h inside rest true e =
    let before : m < k = grind (arith, nat_tests, e) in
    let covers : Covers t (wider_at (first + m) more t) = wider_covers (first + m) more t in
    with_more (nat_lt (first + k) last) (together k t first last) (together k (wider_at (first + m) more t) first last) more (column t (first + k))
    (column (wider_at (first + m) more t) (first + k)) (rest before) (covers.width (first + k)) (covers.gap (first + k))
last_wider k t first last m more h inside rest false e =
    let this : m ≡ k = grind (arith, nat_tests, e, h) in
    let there : column (wider_at (first + m) more t) (first + m) ≡ wider more (column t (first + m)) =
    get_or-set_same t.columns.items (first + m) (wider more (column t (first + m))) fresh inside in
    let at : column (wider_at (first + m) more t) (first + k) ≡ wider more (column t (first + k)) =
    subst (λ (i : ℕ). column (wider_at (first + m) more t) (first + i) ≡ wider more (column t (first + i))) this there in
    subst (λ (x : Column). min (together (suc k) t first last + more) most
    ≤ with_column (nat_lt (first + k) last) (together k (wider_at (first + m) more t) first last) x) (sym at)
    (with_wider (nat_lt (first + k) last) (together k t first last) (together k (wider_at (first + m) more t) first last) more (column t (first + k))
    (together_grows k t (wider_at (first + m) more t) first last (wider_covers (first + m) more t)))

together_wider : (k : ℕ) (t : Grid) (first last m more : ℕ) → m < k → first + m < columns t
    → min (together k t first last + more) most ≤ together k (wider_at (first + m) more t) first last
together_wider zero t first last m more h inside = omega (arith, h)
together_wider (suc k) t first last m more h inside =
    last_wider k t first last m more h inside (λ before. together_wider k t first last m more before inside) (nat_lt m k) refl

-- ---- what is dealt out, and what is left, are enough

record Enough (width k first last count : ℕ) (d : Dealing) : Type 0 where
  enough : width ≤ together k d.grid first last + d.rest
  fits : d.rest ≤ most
  same : columns d.grid ≡ count

-- for one of the columns
step_enough : (whole all width k first last count m : ℕ) (d : Dealing) → m < k → first + m < count → width ≤ most
    → Enough width k first last count d → Enough width k first last count (dealt_at whole all last (first + m) d)
step_enough whole all width k first last count m d h inside small e =
    let more : ℕ = d.rest - left_for whole all (last - (first + m)) in
    let there : first + m < columns d.grid = subst (λ (n : ℕ). first + m < n) (sym e.same) inside in
    let wide : min (together k d.grid first last + more) most ≤ together k (wider_at (first + m) more d.grid) first last =
    together_wider k d.grid first last m more h there in
    record {
      enough = omega (arith, wide, e.enough, small);
      fits = omega (arith, e.fits);
      same = length-set d.grid.columns.items (first + m) (wider more (column d.grid (first + m))) ∙ e.same;
    }

-- for the first of them
all_enough : (whole all width k first last count j : ℕ) (d : Dealing) → j ≤ k → first + k ≤ count → width ≤ most
    → Enough width k first last count d → Enough width k first last count (in_turn j (λ n. dealt_at whole all last (first + n)) d)
all_enough whole all width k first last count zero d h inside small e = e
all_enough whole all width k first last count (suc j) d h inside small e =
    step_enough whole all width k first last count j (in_turn j (λ n. dealt_at whole all last (first + n)) d) (omega (arith, h))
    (omega (arith, h, inside)) small (all_enough whole all width k first last count j d (omega (arith, h)) inside small e)

-- after the last nothing is left
last_enough : (whole width j first last count : ℕ) (d : Dealing) → first + j ≡ last → last < count → count < 2 ^ 64 → width ≤ most
    → Enough width (suc j) first last count d → width ≤ together (suc j) (dealt_at whole (suc j) last (first + j) d).grid first last
last_enough whole width j first last count d at inside few small e =
    let left : last - (first + j) ≡ 0 = omega (arith, at) in
    let all : left_for whole (suc j) (last - (first + j)) ≡ 0 = ap (left_for whole (suc j)) left in
    let after : Enough width (suc j) first last count (dealt_at whole (suc j) last (first + j) d) =
    step_enough whole (suc j) width (suc j) first last count j d (omega arith) (omega (arith, at, inside)) small e in
    let none : (dealt_at whole (suc j) last (first + j) d).rest ≡ 0 = ap (λ (n : ℕ). d.rest - (d.rest - n)) all ∙ omega arith in
    let enough : width ≤ together (suc j) (dealt_at whole (suc j) last (first + j) d).grid first last
    + (dealt_at whole (suc j) last (first + j) d).rest = after.enough in
    omega (arith, enough, none)

widened_fits : (u : Grid) (first last width : ℕ) → first ≤ last → last < columns u → columns u < 2 ^ 64 → width ≤ most
    → width ≤ span_width (widened first last width u) first last
widened_fits u first last width h inside few small =
    let j : ℕ = last - first in
    let over : suc j ≡ columns_over first last = omega (arith, h, inside, few) in
    let at : first + j ≡ last = omega (arith, h) in
    let whole : ℕ = width - together (suc j) u first last in
    let lack : Dealing = dealing u whole in
    let agreed : Enough width (suc j) first last (columns u) lack =
    record { enough = omega arith; fits = omega (arith, small); same = refl } in
    let before : Enough width (suc j) first last (columns u) (in_turn j (λ n. dealt_at whole (suc j) last (first + n)) lack) =
    all_enough whole (suc j) width (suc j) first last (columns u) j lack (omega arith) (omega (arith, at, inside)) small agreed in
    subst (λ (k : ℕ). width ≤ together k (in_turn k (λ n. dealt_at (width - together k u first last) k last (first + n))
    (dealing u (width - together k u first last))).grid first last) over
    (last_enough whole width j first last (columns u) (in_turn j (λ n. dealt_at whole (suc j) last (first + n)) lack) at inside few small before)

-- ---- what stays where columns become wider

widened_same : {B : Type 0} (K : Grid → B) → ((u : Grid) (c more : ℕ) → K (wider_at c more u) ≡ K u) → (first last width : ℕ) (u : Grid)
    → K (widened first last width u) ≡ K u
widened_same K same first last width u =
    let whole : ℕ = width - span_width u first last in
    let all : ℕ = columns_over first last in
    turn_same (λ (d : Dealing). K d.grid) (λ n. dealt_at whole all last (first + n))
    (λ n d. same d.grid (first + n) (d.rest - left_for whole all (last - (first + n)))) all (dealing u whole)

pub spanned_same : {B : Type 0} (K : Grid → B) → ((u : Grid) (c more : ℕ) → K (wider_at c more u) ≡ K u) → (n : ℕ) (u : Grid) → K (spanned_cell n u) ≡ K u
spanned_same K same n u =
    let f : Cell = cell_of u n in
    if_same K (measures f && spans f) (widened f.first f.last (needs f) u) u (K u) (widened_same K same f.first f.last (needs f) u) refl

spanned_covers : (n : ℕ) (u : Grid) → Covers u (spanned_cell n u)
spanned_covers n u = record {
  width = λ c. spanned_width c n u;
  gap = λ c. spanned_same (λ (v : Grid). (column v c).gap)
      (λ v i more. set_same (λ (x : Column). x.gap) v.columns.items i (wider more (column v i)) fresh refl c) n u;
}

equal_covers : (u : Grid) → Covers u (made_equal u)
equal_covers u = record {
  width = λ c. let h : (column u c).width ≤ (column (made_equal u) c).width = equal_width c (column u c).width u (omega arith) in omega (arith, h);
  gap = λ c. turn_same (λ (v : Grid). (column v c).gap) (equal_column (widest_equal u)) (equal_gap c) (columns u) u;
}
  where
    equal_gap : (c n : ℕ) (v : Grid) → (column (equal_column (widest_equal u) n v) c).gap ≡ (column v c).gap
    equal_gap c n v =
        if_same (λ (w : Grid). (column w c).gap) (column v n).equal
        (record v { columns = put n (with_width (widest_equal u) (column v n)) v.columns }) v (column v c).gap
        (set_same (λ (x : Column). x.gap) v.columns.items n (with_width (widest_equal u) (column v n)) fresh refl c) refl

pub fields_same : {B : Type 0} (K : Grid → B) → ((u : Grid) (c : ℕ) (x : Column) → K (record u { columns = put c x u.columns }) ≡ K u) → (t : Grid)
    → K (measured_fields t) ≡ K t
fields_same K same t =
    turn_same K settled_column (λ n u. same u n (as_wide (column u n))) (columns (measured_cells t)) (measured_cells t)
    ∙ turn_same K measured_cell (measured_same K (λ u f. same u f.first (with_field u f (column u f.first)))) (length t.cells.items) t

pub even_same : {B : Type 0} (K : Grid → B) → ((u : Grid) (c : ℕ) (x : Column) → K (record u { columns = put c x u.columns }) ≡ K u) → (t : Grid)
    → K (made_equal (measured_fields t)) ≡ K t
even_same K same t =
    let u : Grid = measured_fields t in
    turn_same K (equal_column (widest_equal u))
    (λ n w. if_same K (column w n).equal (record w { columns = put n (with_width (widest_equal u) (column w n)) w.columns }) w (K w)
    (same w n (with_width (widest_equal u) (column w n))) refl) (columns u) u
    ∙ fields_same K same t

-- ---- the law

both : (a b : Bool) → a ≡ true → b ≡ true → (a && b) ≡ true
both true b e g = g
both false b e g = cc

pub spans_fit : SpansFit
spans_fit t n within counts over inside few =
    let f : Cell = cell_of t n in
    let v : Grid = made_equal (measured_fields t) in
    let u : Grid = in_turn n spanned_cell v in
    let cells_v : v.cells ≡ t.cells = even_same (λ (w : Grid). w.cells) (λ w c x. refl) t in
    let cells_u : u.cells ≡ t.cells =
    turn_same (λ (w : Grid). w.cells) spanned_cell (spanned_same (λ (w : Grid). w.cells) (λ w c more. refl)) n v ∙ cells_v in
    let count_v : columns v ≡ columns t = even_same columns (λ w c x. length-set w.columns.items c x) t in
    let count_u : columns u ≡ columns t =
    turn_same columns spanned_cell (spanned_same columns (λ w c more. length-set w.columns.items c (wider more (column w c)))) n v ∙ count_v in
    let is : cell_of u n ≡ f = ap (λ (xs : Items Cell). get_or xs.items n no_cell) cells_u in
    let agreed : spanned_cell n u ≡ widened f.first f.last (needs f) u =
    ap (λ (g : Cell). if measures g && spans g then widened g.first g.last (needs g) u else u) is
    ∙ if_true (measures f && spans f) (widened f.first f.last (needs f) u) u (both (measures f) (spans f) counts over) in
    let ordered : f.first ≤ f.last = grind (arith, nat_tests, over) in
    let there : f.last < columns u = subst (λ (k : ℕ). f.last < k) (sym count_u) inside in
    let small : columns u < 2 ^ 64 = subst (λ (k : ℕ). k < 2 ^ 64) (sym count_u) few in
    let now : needs f ≤ span_width (widened f.first f.last (needs f) u) f.first f.last =
    widened_fits u f.first f.last (needs f) ordered there small (omega arith) in
    let next : needs f ≤ span_width (spanned_cell n u) f.first f.last =
    subst (λ (w : Grid). needs f ≤ span_width w f.first f.last) (sym agreed) now in
    let rows : n < length v.cells.items = subst (λ (xs : Items Cell). n < length xs.items) (sym cells_v) within in
    let rest : span_width (in_turn (suc n) spanned_cell v) f.first f.last ≤ span_width (measured_spans v) f.first f.last =
    later (λ (w : Grid). span_width w f.first f.last) spanned_cell
    (λ i w. together_grows (columns_over f.first f.last) w (spanned_cell i w) f.first f.last (spanned_covers i w))
    (suc n) (length v.cells.items) v (omega (arith, rows)) in
    let equal : span_width (measured_spans v) f.first f.last ≤ span_width (made_equal (measured_spans v)) f.first f.last =
    together_grows (columns_over f.first f.last) (measured_spans v) (made_equal (measured_spans v)) f.first f.last (equal_covers (measured_spans v)) in
    omega (arith, next, rest, equal)
