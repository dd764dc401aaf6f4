-- A field fits in its column.
use Rattle.std.proofs.Common.{◌≡◌, ℕ, zero, suc, ◌+◌, ◌-◌, ◌<◌, ◌≤◌, min, max, Bool, true, false, ◌&&◌, not, List, [], ◌∷◌, length, get_or, refl, sym, ap, subst, arith, ◌∙◌, length-set, if◌then◌else◌}
use Rattle.std.proofs.lemmas.List.{get_or-set_same}
use Rattle.nr_vectors.specs.Items.{Items}
use Rattle.tbl_columns.specs.declared.grid.Cell.{Cell}
use Rattle.tbl_columns.specs.declared.grid.Column.{Column}
use Rattle.tbl_columns.specs.declared.grid.Grid.{Grid}
use Rattle.tbl_columns.specs.Cells.{columns_over}
use Rattle.tbl_columns.specs.Columns.{Dealing, dealing, dealt_at, equal_column, prefix_cells, is_alpha, is_number, needs, spans, made_equal, measured, measured_cell, measured_cells, measured_fields, measured_spans, measures, settled_column, settled_columns, left_for, span_width, spanned_cell, widened, wider, widest_equal, widest_of, with_field, with_width}
use Rattle.tbl_columns.specs.Counted.{alpha_width, as_wide, with_alpha, with_number, with_text}
use Rattle.tbl_columns.specs.Laws.{FieldsFit}
use Rattle.tbl_columns.specs.Held.{cell_of, column, columns, fresh, no_cell}
use Rattle.tbl_table.specs.Lists.{in_turn, put}
use Rattle.tbl_table.specs.Sums.{sum}
use Rattle.tbl_columns.proofs.Turns.{if_least, if_same, if_true, later, set_has, set_keeps, turn_has, turn_keeps, turn_same}

-- ---- what a column has room for by the fields that count for it

abbrev pub room : Column → ℕ
room c = max (max c.width (sum c.prefix c.back)) (alpha_width c)

alpha_part : (b : Bool) (alpha width : ℕ) → (if b then sum alpha 2 else 0) ≤ sum (max alpha width) 2
alpha_part true alpha width = omega arith
alpha_part false alpha width = omega arith

alpha_keeps : (width : ℕ) (c : Column) → room c ≤ room (with_alpha width c)
alpha_keeps width c = let h : alpha_width c ≤ sum (max c.alpha width) 2 = alpha_part c.alphas c.alpha width in omega (arith, h)

number_keeps : (width prefix : ℕ) (c : Column) → room c ≤ room (with_number width prefix c)
number_keeps width prefix c = omega arith

text_keeps : (width : ℕ) (c : Column) → room c ≤ room (with_text width c)
text_keeps width c = omega arith

field_keeps : (t : Grid) (f : Cell) (c : Column) → room c ≤ room (with_field t f c)
field_keeps t f c =
    if_least room (room c) (is_alpha f) (with_alpha f.width c)
    (if is_number f then with_number f.width (prefix_cells t f) c else with_text f.width c)
    (alpha_keeps f.width c)
    (if_least room (room c) (is_number f) (with_number f.width (prefix_cells t f) c) (with_text f.width c)
    (number_keeps f.width (prefix_cells t f) c) (text_keeps f.width c))

-- ---- a field counts

counts : (alpha number : Bool) (width prefix : ℕ) (c : Column) → sum width (if alpha then 2 else 0)
    ≤ room (if alpha then with_alpha width c else if number then with_number width prefix c else with_text width c)
counts true number width prefix c = omega arith
counts false true width prefix c = omega arith
counts false false width prefix c = omega arith

field_counts : (t : Grid) (f : Cell) (c : Column) → needs f ≤ room (with_field t f c)
field_counts t f c = counts (is_alpha f) (is_number f) f.width (prefix_cells t f) c

-- ---- all fields of one column

measured_keeps : (c n : ℕ) (u : Grid) → room (column u c) ≤ room (column (measured_cell n u) c)
measured_keeps c n u =
    let f : Cell = cell_of u n in
    if_least (λ (v : Grid). room (column v c)) (room (column u c)) (measures f && not (spans f)) (measured f u) u
    (set_keeps room u.columns.items f.first (with_field u f (column u f.first)) fresh (field_keeps u f (column u f.first)) c) (omega arith)

pub measured_same : {B : Type 0} (K : Grid → B) → ((u : Grid) (f : Cell) → K (measured f u) ≡ K u) → (n : ℕ) (u : Grid) → K (measured_cell n u) ≡ K u
measured_same K same n u =
    if_same K (measures (cell_of u n) && not (spans (cell_of u n))) (measured (cell_of u n) u) u (K u) (same u (cell_of u n)) refl

pub columns_put : (u : Grid) (f : Cell) → columns (measured f u) ≡ columns u
columns_put u f = length-set u.columns.items f.first (with_field u f (column u f.first))

both_true : (a b : Bool) → a ≡ true → b ≡ false → (a && not b) ≡ true
both_true true true e g = cc
both_true true false e g = refl
both_true false b e g = cc

-- the n-th counts when it is reached
cell_counts : (t u : Grid) (n : ℕ) → u.cells ≡ t.cells → columns u ≡ columns t
    → measures (cell_of t n) ≡ true → spans (cell_of t n) ≡ false → (cell_of t n).first < columns t
    → needs (cell_of t n) ≤ room (column (measured_cell n u) (cell_of t n).first)
cell_counts t u n cells count counts alone inside =
    let f : Cell = cell_of t n in
    let is : cell_of u n ≡ f = ap (λ (xs : Items Cell). get_or xs.items n no_cell) cells in
    let inner : f.first < columns u = subst (λ (k : ℕ). f.first < k) (sym count) inside in
    let agreed : measured_cell n u ≡ measured f u =
    ap (λ (g : Cell). if measures g && not (spans g) then measured g u else u) is
    ∙ if_true (measures f && not (spans f)) (measured f u) u (both_true (measures f) (spans f) counts alone) in
    let there : column (measured f u) f.first ≡ with_field u f (column u f.first) =
    get_or-set_same u.columns.items f.first (with_field u f (column u f.first)) fresh inner in
    subst (λ (x : Column). needs f ≤ room x) (sym (ap (λ (v : Grid). column v f.first) agreed ∙ there))
    (field_counts u f (column u f.first))

fields_count : (t : Grid) (n : ℕ) → n < length t.cells.items
    → measures (cell_of t n) ≡ true → spans (cell_of t n) ≡ false → (cell_of t n).first < columns t
    → needs (cell_of t n) ≤ room (column (measured_cells t) (cell_of t n).first)
fields_count t n within counts alone inside =
    let f : Cell = cell_of t n in
    let c : ℕ = f.first in
    let u : Grid = in_turn n measured_cell t in
    let agreed : needs f ≤ room (column (measured_cell n u) c) =
    cell_counts t u n
    (turn_same (λ (v : Grid). v.cells) measured_cell (measured_same (λ (v : Grid). v.cells) (λ v f. refl)) n t)
    (turn_same columns measured_cell (measured_same columns columns_put) n t)
    counts alone inside in
    let rest : room (column (in_turn (suc n) measured_cell t) c) ≤ room (column (measured_cells t) c) =
    later (λ (v : Grid). room (column v c)) measured_cell (measured_keeps c) (suc n) (length t.cells.items) t (omega (arith, within)) in
    omega (arith, agreed, rest)

-- ---- columns become as wide as what counts for them

wide_room : (c : Column) → room c ≤ room (as_wide c)
wide_room c = omega arith

wide_width : (c : Column) → c.width ≤ (as_wide c).width
wide_width c = omega arith

room_width : (c : Column) → room c ≤ (as_wide c).width
room_width c = omega arith

settled_room : (c n : ℕ) (u : Grid) → room (column u c) ≤ room (column (settled_column n u) c)
settled_room c n u = set_keeps room u.columns.items n (as_wide (column u n)) fresh (wide_room (column u n)) c

pub settled_width : (c n : ℕ) (u : Grid) → (column u c).width ≤ (column (settled_column n u) c).width
settled_width c n u = set_keeps (λ (x : Column). x.width) u.columns.items n (as_wide (column u n)) fresh (wide_width (column u n)) c

pub settled_count : (n : ℕ) (u : Grid) → columns (settled_column n u) ≡ columns u
settled_count n u = length-set u.columns.items n (as_wide (column u n))

settled_fits : (v : Grid) (c : ℕ) → c < columns v → room (column v c) ≤ (column (settled_columns v) c).width
settled_fits v c inside =
    let u : Grid = in_turn c settled_column v in
    let before : room (column v c) ≤ room (column u c) = turn_keeps (λ (w : Grid). room (column w c)) settled_column (settled_room c) c v in
    let inner : c < columns u = subst (λ (k : ℕ). c < k) (sym (turn_same columns settled_column settled_count c v)) inside in
    let there : column (settled_column c u) c ≡ as_wide (column u c) = get_or-set_same u.columns.items c (as_wide (column u c)) fresh inner in
    let now : room (column u c) ≤ (column (settled_column c u) c).width =
    subst (λ (x : Column). room (column u c) ≤ x.width) (sym there) (room_width (column u c)) in
    let rest : (column (in_turn (suc c) settled_column v) c).width ≤ (column (settled_columns v) c).width =
    later (λ (w : Grid). (column w c).width) settled_column (settled_width c) (suc c) (columns v) v (omega (arith, inside)) in
    omega (arith, before, now, rest)

-- ---- what spans lack is dealt out: no column becomes narrower

abbrev pub most : ℕ
most = 18446744073709551615

abbrev pub width_in : Column → ℕ
width_in c = min c.width most

pub dealt_width : (whole all c last n : ℕ) (d : Dealing) → width_in (column d.grid c) ≤ width_in (column (dealt_at whole all last n d).grid c)
dealt_width whole all c last n d =
    let x : Column = column d.grid n in
    let more : ℕ = d.rest - left_for whole all (last - n) in
    let no_less : width_in x ≤ width_in (wider more x) = omega arith in
    set_keeps width_in d.grid.columns.items n (wider more x) fresh no_less c

pub widened_width : (c first last width : ℕ) (u : Grid) → width_in (column u c) ≤ width_in (column (widened first last width u) c)
widened_width c first last width u =
    let whole : ℕ = width - span_width u first last in
    let all : ℕ = columns_over first last in
    turn_keeps (λ (d : Dealing). width_in (column d.grid c)) (λ n. dealt_at whole all last (first + n))
    (λ n d. dealt_width whole all c last (first + n) d) all (dealing u whole)

pub spanned_width : (c n : ℕ) (u : Grid) → width_in (column u c) ≤ width_in (column (spanned_cell n u) c)
spanned_width c n u =
    let f : Cell = cell_of u n in
    if_least (λ (v : Grid). width_in (column v c)) (width_in (column u c)) (measures f && spans f)
    (widened f.first f.last (needs f) u) u (widened_width c f.first f.last (needs f) u) (omega arith)

pub spans_width : (c : ℕ) (u : Grid) → width_in (column u c) ≤ width_in (column (measured_spans u) c)
spans_width c u = turn_keeps (λ (v : Grid). width_in (column v c)) spanned_cell (spanned_width c) (length u.cells.items) u

-- ---- columns of e become as wide as the widest of them

widest_in : (b : Bool) (width w : ℕ) → b ≡ true → width ≤ (if b then max width w else w)
widest_in true width w e = omega arith
widest_in false width w e = cc

wider_in : (b : Bool) (width w x : ℕ) → x ≤ w → x ≤ (if b then max width w else w)
wider_in true width w x h = omega (arith, h)
wider_in false width w x h = h

widest_least : (xs : List Column) (c : ℕ) → (get_or xs c fresh).equal ≡ true → (get_or xs c fresh).width ≤ widest_of xs
widest_least [] c e = cc
widest_least (x ∷ xs) zero e = widest_in x.equal x.width (widest_of xs) e
widest_least (x ∷ xs) (suc c) e = wider_in x.equal x.width (widest_of xs) (get_or xs c fresh).width (widest_least xs c e)

-- a column is one of e or not as before, and no narrower than that
record Stays (equal : Bool) (width : ℕ) (x : Column) : Type 0 where
  same : x.equal ≡ equal
  no_less : width ≤ x.width

equal_stays : (equal : Bool) (width widest c n : ℕ) (u : Grid) → (equal ≡ true → width ≤ widest) → Stays equal width (column u c)
    → Stays equal width (column (equal_column widest n u) c)
equal_stays equal width widest c n u fits stays = equal_in (column u n).equal refl
  where
    equal_in : (b : Bool) → (column u n).equal ≡ b → Stays equal width (column (if b then record u { columns = put n (with_width widest (column u n)) u.columns } else u) c)
    equal_in true e = set_has (Stays equal width) u.columns.items n (with_width widest (column u n)) fresh c stays
        (λ at.
        let as_agreed : (column u n).equal ≡ equal = ap (λ (m : ℕ). (column u m).equal) (sym at) ∙ stays.same in
        record { same = as_agreed; no_less = fits (sym as_agreed ∙ e) })
    equal_in false e = stays

pub equal_width : (c width : ℕ) (u : Grid) → width ≤ (column u c).width → width ≤ (column (made_equal u) c).width
equal_width c width u h =
    let equal : Bool = (column u c).equal in
    let fits : equal ≡ true → width ≤ widest_equal u =
    λ e. let least : (column u c).width ≤ widest_equal u = widest_least u.columns.items c e in omega (arith, h, least) in
    let stays : Stays equal width (column (made_equal u) c) =
    turn_has (λ (v : Grid). Stays equal width (column v c)) (equal_column (widest_equal u))
    (λ n v p. equal_stays equal width (widest_equal u) c n v fits p) (columns u) u (record { same = refl; no_less = h }) in
    stays.no_less

-- ---- the law

pub fields_fit : FieldsFit
fields_fit t n within counts alone inside =
    let f : Cell = cell_of t n in
    let c : ℕ = f.first in
    let agreed : needs f ≤ room (column (measured_cells t) c) = fields_count t n within counts alone inside in
    let there : c < columns (measured_cells t) =
    subst (λ (k : ℕ). c < k) (sym (turn_same columns measured_cell (measured_same columns columns_put) (length t.cells.items) t)) inside in
    let settled : room (column (measured_cells t) c) ≤ (column (measured_fields t) c).width = settled_fits (measured_cells t) c there in
    let v : Grid = made_equal (measured_fields t) in
    let even : needs f ≤ (column v c).width = equal_width c (needs f) (measured_fields t) (omega (arith, agreed, settled)) in
    let spanned : width_in (column v c) ≤ width_in (column (measured_spans v) c) = spans_width c v in
    let small : needs f ≤ most = omega arith in
    equal_width c (needs f) (measured_spans v) (omega (arith, even, spanned, small))
