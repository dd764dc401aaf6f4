-- Columns are as wide as w says, and those of e of one width.
use Rattle.std.proofs.Common.{◌≡◌, ℕ, suc, ◌<◌, ◌≤◌, max, Bool, true, false, length, refl, sym, ap, subst, arith, ◌∙◌, length-set, if◌then◌else◌}
use Rattle.std.proofs.lemmas.List.{get_or-set_same}
use Rattle.tbl_columns.specs.declared.grid.Cell.{Cell}
use Rattle.tbl_columns.specs.declared.grid.Column.{Column}
use Rattle.tbl_columns.specs.declared.grid.Grid.{Grid}
use Rattle.tbl_columns.specs.Columns.{equal_column, prefix_cells, is_alpha, is_number, made_equal, measured_cell, measured_cells, measured_fields, measured_spans, settled_column, spanned_cell, widest_equal, wider, with_field, with_width}
use Rattle.tbl_columns.specs.Counted.{as_wide, with_alpha, with_number, with_text}
use Rattle.tbl_columns.specs.Laws.{EqualColumns, LeastFits}
use Rattle.tbl_columns.specs.Held.{column, columns, fresh}
use Rattle.tbl_table.specs.Lists.{in_turn, put}
use Rattle.tbl_columns.proofs.Fits.{columns_put, equal_width, measured_same, settled_count, settled_width, spans_width, width_in}
use Rattle.tbl_columns.proofs.SpansFit.{even_same, spanned_same}
use Rattle.tbl_columns.proofs.Turns.{if_same, if_true, later, later_has, set_has, set_same, turn_same}

-- ---- what a column keeps where fields count for it

field_same : {B : Type 0} (K : Column → B) → ((width : ℕ) (c : Column) → K (with_text width c) ≡ K c) → ((width : ℕ) (c : Column) → K (with_alpha width c) ≡ K c)
    → ((width prefix : ℕ) (c : Column) → K (with_number width prefix c) ≡ K c) → (t : Grid) (f : Cell) (c : Column) → K (with_field t f c) ≡ K c
field_same K text alpha number t f c =
    if_same K (is_alpha f) (with_alpha f.width c)
    (if is_number f then with_number f.width (prefix_cells t f) c else with_text f.width c) (K c) (alpha f.width c)
    (if_same K (is_number f) (with_number f.width (prefix_cells t f) c) (with_text f.width c) (K c)
    (number f.width (prefix_cells t f) c) (text f.width c))

cells_same : {B : Type 0} (K : Column → B) → ((t : Grid) (f : Cell) (c : Column) → K (with_field t f c) ≡ K c) → (c : ℕ) (t : Grid)
    → K (column (measured_cells t) c) ≡ K (column t c)
cells_same K field c t =
    turn_same (λ (v : Grid). K (column v c)) measured_cell
    (measured_same (λ (v : Grid). K (column v c))
    (λ u f. set_same K u.columns.items f.first (with_field u f (column u f.first)) fresh (field u f (column u f.first)) c)) (length t.cells.items) t

settled_same : {B : Type 0} (K : Column → B) → ((c : Column) → K (as_wide c) ≡ K c) → (c k : ℕ) (v : Grid)
    → K (column (in_turn k settled_column v) c) ≡ K (column v c)
settled_same K wide c k v =
    turn_same (λ (u : Grid). K (column u c)) settled_column
    (λ n u. set_same K u.columns.items n (as_wide (column u n)) fresh (wide (column u n)) c) k v

cells_count : (t : Grid) → columns (measured_cells t) ≡ columns t
cells_count t = turn_same columns measured_cell (measured_same columns columns_put) (length t.cells.items) t

-- ---- w

least_wide : (c : Column) (least : ℕ) → c.least_cells ≡ least → max least 1 ≤ (as_wide c).width
least_wide c least e = omega (arith, e)

least_settled : (t : Grid) (c : ℕ) → c < columns t → max (column t c).least_cells 1 ≤ (column (measured_fields t) c).width
least_settled t c inside =
    let v : Grid = measured_cells t in
    let u : Grid = in_turn c settled_column v in
    let kept : (column u c).least_cells ≡ (column t c).least_cells =
    settled_same (λ (x : Column). x.least_cells) (λ x. refl) c c v
    ∙ cells_same (λ (x : Column). x.least_cells) (field_same (λ (x : Column). x.least_cells) (λ w x. refl) (λ w x. refl) (λ w f x. refl)) c t in
    let there : c < columns v = subst (λ (k : ℕ). c < k) (sym (cells_count t)) inside in
    let inner : c < columns u = subst (λ (k : ℕ). c < k) (sym (turn_same columns settled_column settled_count c v)) there in
    let agreed : column (settled_column c u) c ≡ as_wide (column u c) = get_or-set_same u.columns.items c (as_wide (column u c)) fresh inner in
    let now : max (column t c).least_cells 1 ≤ (column (settled_column c u) c).width =
    subst (λ (x : Column). max (column t c).least_cells 1 ≤ x.width) (sym agreed) (least_wide (column u c) (column t c).least_cells kept) in
    let rest : (column (in_turn (suc c) settled_column v) c).width ≤ (column (measured_fields t) c).width =
    later (λ (w : Grid). (column w c).width) settled_column (settled_width c) (suc c) (columns v) v (omega (arith, there)) in
    omega (arith, now, rest)

pub least_fits : LeastFits
least_fits t c inside fits =
    let least : ℕ = max (column t c).least_cells 1 in
    let settled : least ≤ (column (measured_fields t) c).width = least_settled t c inside in
    let v : Grid = made_equal (measured_fields t) in
    let even : least ≤ (column v c).width = equal_width c least (measured_fields t) settled in
    let spanned : width_in (column v c) ≤ width_in (column (measured_spans v) c) = spans_width c v in
    equal_width c least (measured_spans v) (omega (arith, even, spanned, fits))

-- ---- e

spanned_columns : {B : Type 0} (K : Column → B) → ((more : ℕ) (c : Column) → K (wider more c) ≡ K c) → (c : ℕ) (v : Grid)
    → K (column (measured_spans v) c) ≡ K (column v c)
spanned_columns K wide c v =
    turn_same (λ (w : Grid). K (column w c)) spanned_cell
    (spanned_same (λ (w : Grid). K (column w c)) (λ u i more. set_same K u.columns.items i (wider more (column u i)) fresh (wide more (column u i)) c))
    (length v.cells.items) v

equal_flag : (widest c n : ℕ) (u : Grid) → (column (equal_column widest n u) c).equal ≡ (column u c).equal
equal_flag widest c n u =
    if_same (λ (w : Grid). (column w c).equal) (column u n).equal (record u { columns = put n (with_width widest (column u n)) u.columns }) u
    (column u c).equal (set_same (λ (x : Column). x.equal) u.columns.items n (with_width widest (column u n)) fresh refl c) refl

equal_count : (widest n : ℕ) (u : Grid) → columns (equal_column widest n u) ≡ columns u
equal_count widest n u =
    if_same columns (column u n).equal (record u { columns = put n (with_width widest (column u n)) u.columns }) u (columns u)
    (length-set u.columns.items n (with_width widest (column u n))) refl

equal_kept : (t : Grid) (c : ℕ) → (column (measured_spans (made_equal (measured_fields t))) c).equal ≡ (column t c).equal
equal_kept t c =
    let u : Grid = measured_fields t in
    spanned_columns (λ (x : Column). x.equal) (λ more x. refl) c (made_equal u)
    ∙ turn_same (λ (w : Grid). (column w c).equal) (equal_column (widest_equal u)) (equal_flag (widest_equal u) c) (columns u) u
    ∙ settled_same (λ (x : Column). x.equal) (λ x. refl) c (columns (measured_cells t)) (measured_cells t)
    ∙ cells_same (λ (x : Column). x.equal) (field_same (λ (x : Column). x.equal) (λ w x. refl) (λ w x. refl) (λ w f x. refl)) c t

count_kept : (t : Grid) → columns (measured_spans (made_equal (measured_fields t))) ≡ columns t
count_kept t =
    turn_same columns spanned_cell (spanned_same columns (λ w c more. length-set w.columns.items c (wider more (column w c))))
    (length (made_equal (measured_fields t)).cells.items) (made_equal (measured_fields t))
    ∙ even_same columns (λ w c x. length-set w.columns.items c x) t

if_has : {T : Type 0} (P : T → Type 0) (b : Bool) (x y : T) → P x → P y → P (if b then x else y)
if_has P true x y p q = p
if_has P false x y p q = q

equal_stays : (widest c n : ℕ) (u : Grid) → (column u c).width ≡ widest → (column (equal_column widest n u) c).width ≡ widest
equal_stays widest c n u e =
    if_has (λ (w : Grid). (column w c).width ≡ widest) (column u n).equal
    (record u { columns = put n (with_width widest (column u n)) u.columns }) u
    (set_has (λ (x : Column). x.width ≡ widest) u.columns.items n (with_width widest (column u n)) fresh c e (λ at. refl)) e

made_width : (v : Grid) (c : ℕ) → c < columns v → (column v c).equal ≡ true → (column (made_equal v) c).width ≡ widest_equal v
made_width v c inside e =
    let widest : ℕ = widest_equal v in
    let u : Grid = in_turn c (equal_column widest) v in
    let flag : (column u c).equal ≡ true = turn_same (λ (w : Grid). (column w c).equal) (equal_column widest) (equal_flag widest c) c v ∙ e in
    let inner : c < columns u = subst (λ (k : ℕ). c < k) (sym (turn_same columns (equal_column widest) (equal_count widest) c v)) inside in
    let agreed : equal_column widest c u ≡ record u { columns = put c (with_width widest (column u c)) u.columns } =
    if_true (column u c).equal (record u { columns = put c (with_width widest (column u c)) u.columns }) u flag in
    let there : (column (equal_column widest c u) c).width ≡ widest =
    ap (λ (w : Grid). (column w c).width) agreed
    ∙ ap (λ (x : Column). x.width) (get_or-set_same u.columns.items c (with_width widest (column u c)) fresh inner) in
    later_has (λ (w : Grid). (column w c).width ≡ widest) (equal_column widest) (equal_stays widest c) (suc c) (columns v) v (omega (arith, inside)) there

pub equal_columns : EqualColumns
equal_columns t c d in_c in_d is_c is_d =
    let v : Grid = measured_spans (made_equal (measured_fields t)) in
    let at_c : c < columns v = subst (λ (k : ℕ). c < k) (sym (count_kept t)) in_c in
    let at_d : d < columns v = subst (λ (k : ℕ). d < k) (sym (count_kept t)) in_d in
    made_width v c at_c (equal_kept t c ∙ is_c) ∙ sym (made_width v d at_d (equal_kept t d ∙ is_d))
