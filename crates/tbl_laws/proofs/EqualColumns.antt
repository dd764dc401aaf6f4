-- Columns of e are of one width when a table goes out, where none is of x.
use Rattle.std.proofs.Common.{◌≡◌, ℕ, suc, ◌<◌, Bool, true, false, refl, sym, ◌∙◌, ap, subst, length-set, arith, if◌then◌else◌}
use Rattle.std.proofs.lemmas.List.{get_or-set_same}
use Rattle.tbl_columns.specs.declared.grid.Column.{Column}
use Rattle.tbl_columns.specs.declared.grid.Grid.{Grid}
use Rattle.tbl_columns.specs.Columns.{equal_column, made_equal, widest_equal, with_width}
use Rattle.tbl_columns.specs.Frames.{Laying, laid, laid_at, laid_out, laying, left_edge}
use Rattle.tbl_columns.specs.Held.{column, columns, fresh}
use Rattle.tbl_columns.specs.Measured.{by_fields, line_shared, measured_columns, measured_table}
use Rattle.tbl_columns.specs.Narrow.{is_too_wide}
use Rattle.tbl_columns.specs.Texts.{filled_blocks}
use Rattle.tbl_columns.proofs.Turns.{if_true, later_has, set_has, set_same, turn_same}
use Rattle.tbl_table.specs.declared.table.Table.{Table}
use Rattle.tbl_table.specs.Lists.{in_turn, put}
use Rattle.tbl_table.specs.Sums.{sum}
use Rattle.tbl_laws.specs.Columns.{EqualAtLast}
use Rattle.tbl_laws.proofs.FinalColumns.{blocks_cover, equal_beside, equal_covers, equal_same, laid_covers, table_is}
use Rattle.tbl_laws.proofs.MeasuredColumns.{by_fields_alike, none_shared}

-- ---- columns of e as wide as the widest of them

if_has : {T : Type 0} (P : T → Type 0) (b : Bool) (x y : T) → P x → P y → P (if b then x else y)
if_has P true x y p q = p
if_has P false x y p q = q

equal_stays : (widest c n : ℕ) (u : Grid) → (column u c).width ≡ widest → (column (equal_column widest n u) c).width ≡ widest
equal_stays widest c n u e =
    if_has (λ (w : Grid). (column w c).width ≡ widest) (column u n).equal
    (record u { columns = put n (with_width widest (column u n)) u.columns }) u
    (set_has (λ (x : Column). x.width ≡ widest) u.columns.items n (with_width widest (column u n)) fresh c e (λ at. refl)) e

made_width : (v : Grid) (c : ℕ) → c < columns v → (column v c).equal ≡ true → (column (made_equal v) c).width ≡ widest_equal v
made_width v c inside e =
    let widest : ℕ = widest_equal v in
    let u : Grid = in_turn c (equal_column widest) v in
    let flag : (column u c).equal ≡ true =
    turn_same (λ (w : Grid). (column w c).equal) (equal_column widest) (equal_same (λ (x : Column). x.equal) (λ n x. refl) c widest) c v ∙ e in
    let count : columns u ≡ columns v = turn_same columns (equal_column widest) (equal_beside columns (λ w n x. length-set w.columns.items n x) widest) c v in
    let inner : c < columns u = subst (λ (k : ℕ). c < k) (sym count) inside in
    let agreed : equal_column widest c u ≡ record u { columns = put c (with_width widest (column u c)) u.columns } =
    if_true (column u c).equal (record u { columns = put c (with_width widest (column u c)) u.columns }) u flag in
    let there : (column (equal_column widest c u) c).width ≡ widest =
    ap (λ (w : Grid). (column w c).width) agreed
    ∙ ap (λ (x : Column). x.width) (get_or-set_same u.columns.items c (with_width widest (column u c)) fresh inner) in
    later_has (λ (w : Grid). (column w c).width ≡ widest) (equal_column widest) (equal_stays widest c) (suc c) (columns v) v (omega (arith, inside)) there

-- ---- places leave widths as they are

laid_width : (c : ℕ) (t : Grid) → (column (laid_out t) c).width ≡ (column t c).width
laid_width c t =
    turn_same (λ (l : Laying). (column l.grid c).width) laid_at
    (λ n l. set_same (λ (x : Column). x.width) l.grid.columns.items n (laid l.place (column l.grid n)) fresh refl c)
    (columns t) (laying t (sum (left_edge t) t.edges.left))

width_at_last : (g : Grid) (n : ℕ) → is_too_wide (measured_columns g) ≡ false → g.table.looks.expand ≡ false → ((c : ℕ) → (column g c).wide ≡ false)
    → n < columns g → (column g n).equal ≡ true → (column (measured_table g) n).width ≡ widest_equal (filled_blocks false (by_fields g))
width_at_last g n stays expand narrow inside flag =
    let a = by_fields g in
    let b = filled_blocks false a in
    let m = made_equal b in
    let l = laid_out m in
    let alike = by_fields_alike g in
    let filled = blocks_cover true false a in
    let even = equal_covers true b in
    let laid_as = laid_covers true m in
    let looks : l.table.looks.expand ≡ false =
    ap (λ (t : Table). t.looks.expand) (laid_as.table ∙ even.table ∙ filled.table) ∙ ap (λ (x : Grid). x.table.looks.expand) alike.same ∙ expand in
    ap (λ (t : Grid). (column t n).width) (table_is g stays)
    ∙ laid_width n (line_shared l)
    ∙ ap (λ (t : Grid). (column t n).width) (none_shared l (λ i. laid_as.wide i ∙ even.wide i ∙ filled.wide i ∙ alike.narrow narrow i) looks)
    ∙ laid_width n m
    ∙ made_width b n (subst (λ (k : ℕ). n < k) (sym (filled.count ∙ alike.count)) inside) (filled.equal n ∙ alike.equal n ∙ flag)

pub equal_at_last : EqualAtLast
equal_at_last g c d stays expand narrow in_c in_d is_c is_d =
    width_at_last g c stays expand narrow in_c is_c ∙ sym (width_at_last g d stays expand narrow in_d is_d)
