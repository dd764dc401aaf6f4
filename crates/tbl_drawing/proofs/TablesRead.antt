-- Every table that is read has room, and its fields stand in columns.
use Rattle.std.proofs.Common.{◌≡◌, ℕ, zero, suc, ◌+◌, ◌*◌, ◌<◌, ◌≤◌, ◌==◌, Bool, true, false, nat_lt, List, [], ◌∷◌, ◌++◌, length, refl, ap, arith, ◌∙◌, length-append, if◌then◌else◌}
use Rattle.std.proofs.lemmas.Bool.Decides.{nat_tests}
use Rattle.std.proofs.lemmas.Nat.{mul-le}
use Rattle.nr_vectors.specs.Items.{Items}
use Rattle.tbl_columns.specs.declared.grid.Block.{Block}
use Rattle.tbl_columns.specs.declared.grid.Cell.{Cell}
use Rattle.tbl_columns.specs.declared.grid.Column.{Column}
use Rattle.tbl_columns.specs.declared.grid.Grid.{Grid}
use Rattle.tbl_columns.specs.Cells.{placed_cells}
use Rattle.tbl_columns.specs.Columns.{column_of, columns_read, read_column}
use Rattle.tbl_columns.specs.Held.{cell_room, columns, forgotten_cells, placed}
use Rattle.tbl_columns.specs.Laws.{TextsFit}
use Rattle.tbl_columns.specs.Measured.{measured_columns, placed_table}
use Rattle.tbl_columns.specs.Narrow.{with_long_fields}
use Rattle.tbl_columns.proofs.TablesFit.{tables_fit}
use Rattle.tbl_columns.proofs.Turns.{turn_same}
use Rattle.tbl_drawing.specs.declared.layout.Layout.{Layout}
use Rattle.tbl_drawing.specs.declared.layout.Step.{Step}
use Rattle.tbl_drawing.specs.Heights.{first_heights, heights_read, heights_settled, line_settled, lines_settled, rows_raised, without_begins}
use Rattle.tbl_drawing.specs.Laws.{own_row, own_rows, rows_of}
use Rattle.tbl_drawing.specs.ReadTables.{FieldsReadStand, FieldsReadStandOnce, ReadTablesFit, RoomIsEnough, RowsReadGoOut, TextsReadFit, WordsEnd, measured_read}
use Rattle.tbl_drawing.specs.Steps.{steps_taken}
use Rattle.tbl_drawing.specs.Tables.{columns_opened, columns_renewed, columns_stand, ready}
use Rattle.tbl_drawing.proofs.Below.{by_cases}
use Rattle.tbl_drawing.proofs.FieldsStand.{Ready, fields_stand_once, is_ready}
use Rattle.tbl_drawing.proofs.InColumns.{InColumns, in_columns}
use Rattle.tbl_drawing.proofs.Kept.{Keeps, blocks_read_keeps, columns_keep, keeps_as, keeps_itself, keeps_then, long_fields_keep}
use Rattle.tbl_drawing.proofs.RowHeights.{Raised, all_raised, heights_are}
use Rattle.tbl_drawing.proofs.RowsInOrder.{rows_go_out, steps_keep}
use Rattle.tbl_drawing.proofs.TextsStand.{TextsStand, text_fits}
use Rattle.tbl_table.specs.declared.table.Item.{Item}
use Rattle.tbl_table.specs.declared.table.Item.TheVariants as items
use Rattle.tbl_table.specs.declared.table.Table.{Table}
use Rattle.tbl_table.specs.Held.{none_of}
use Rattle.tbl_table.specs.Lists.{added, in_turn}
use Rattle.tbl_table.specs.Table.{item_room, row_room, width}

-- ---- there are 64 columns at most

count_added : (x : Column) (xs : Items Column) → length (added x xs).items ≤ length xs.items + 1
count_added x xs =
    by_cases (λ (cs : List Column). length cs ≤ length xs.items + 1) (nat_lt (length xs.items) xs.capacity) (xs.items ++ x ∷ []) xs.items
    (λ e. omega (arith, length-append xs.items (x ∷ []))) (λ e. omega arith)

count_read : (k : ℕ) (g : Grid) → columns g ≡ 0 → columns (in_turn k read_column g) ≤ k
count_read zero g none = omega (arith, none)
count_read (suc k) g none =
    let u : Grid = in_turn k read_column g in
    let before : columns u ≤ k = count_read k g none in
    let one : columns (read_column k u) ≤ columns u + 1 = count_added (column_of u k) u.columns in
    omega (arith, before, one)

few_opened : (l : Layout) → columns (columns_opened l).grid ≤ 64
few_opened l =
    let most : width l.grid.table ≤ 64 = omega arith in
    let read : columns (columns_read l.grid) ≤ width l.grid.table = count_read (width l.grid.table) (record l.grid { columns = none_of l.grid.columns }) refl in
    by_cases (λ (x : Layout). columns x.grid ≤ 64) (columns_stand l) l (columns_renewed l)
    (λ e. same (columns l.grid) (width l.grid.table) most e) (λ e. omega (arith, most, read))
  where
    same : (c w : ℕ) → w ≤ 64 → (c == w) ≡ true → c ≤ 64
    same c w h e = grind (arith, nat_tests, e, h)

-- ---- room

enough : (rows columns most : ℕ) → rows ≤ row_room most → columns ≤ 64 → most + 128 < 18446744073709551616 → rows * columns ≤ cell_room most
enough rows columns most few narrow small =
    let within : rows * columns ≤ row_room most * 64 = mul-le rows columns (row_room most) 64 few narrow in
    let all : row_room most * 64 ≤ most + 128 = omega arith in
    omega (arith, within, all, small)

pub room_is_enough : RoomIsEnough
room_is_enough most row l ends small (signs, room, made) held few =
    let q : Ready l (columns_opened l) (ready l) = is_ready l in
    let p : InColumns (forgotten_cells (columns_opened l).grid) (placed_cells (columns_opened l).grid) = in_columns (columns_opened l).grid in
    let rows_room : l.grid.table.rows.capacity ≡ row_room most = ap (λ (x : Layout). x.grid.table.rows.capacity) made in
    let items_room : l.grid.table.items.capacity ≡ item_room most = ap (λ (x : Layout). x.grid.table.items.capacity) made in
    let numbers_room : l.grid.numbers.capacity ≡ cell_room most = ap (λ (x : Layout). x.grid.numbers.capacity) made in
    let cells_room : l.grid.cells.capacity ≡ cell_room most = ap (λ (x : Layout). x.grid.cells.capacity) made in
    let placed_room : l.grid.placed.capacity ≡ row_room most = ap (λ (x : Layout). x.grid.placed.capacity) made in
    let talls_room : l.talls.capacity ≡ row_room most = ap (λ (x : Layout). x.talls.capacity) made in
    let begins_room : l.begins.capacity ≡ cell_room most = ap (λ (x : Layout). x.begins.capacity) made in
    let steps_room : l.steps.capacity ≡ item_room most * 4 + 4 = ap (λ (x : Layout). x.steps.capacity) made in
    let opened : (columns_opened l).grid.cells.capacity ≡ l.grid.cells.capacity = ap (λ (xs : Items Cell). xs.capacity) q.opens.cells in
    let cells : length (ready l).grid.cells.items ≤ cell_room most = omega (arith, q.kept.count, p.fit.0, p.room, opened, cells_room) in
    let all : length l.grid.table.rows.items * columns (columns_opened l).grid ≤ cell_room most =
    enough (length l.grid.table.rows.items) (columns (columns_opened l).grid) most (omega (arith, held.rows, rows_room)) (few_opened l) small in
    record {
      numbers = omega (arith, all, numbers_room);
      small = omega (arith, numbers_room);
      placed = omega (arith, held.rows, rows_room, placed_room);
      talls = omega (arith, held.rows, rows_room, talls_room);
      begins = omega (arith, cells, begins_room);
      steps = omega (arith, held.items, items_room, steps_room);
      lines = few;
    }

pub fields_read_stand_once : FieldsReadStandOnce
fields_read_stand_once most row l ends n k small made held few inside less =
    fields_stand_once l ends n k held.read (room_is_enough most row l ends small made held few) inside less

-- ---- rows that go out

own_row_same : (a b : Layout) → a.grid ≡ b.grid → (i : Item) → own_row a i ≡ own_row b i
own_row_same a b e items.Rule = refl
own_row_same a b e (items.Request s) = refl
own_row_same a b e (items.Row r) = ap (λ (g : Grid). if (placed g r).own then r ∷ [] else []) e

own_rows_same : (a b : Layout) → a.grid ≡ b.grid → (is : List Item) → own_rows a is ≡ own_rows b is
own_rows_same a b e [] = refl
own_rows_same a b e (i ∷ is) =
    ap (λ (rs : List ℕ). rs ++ own_rows a is) (own_row_same a b e i) ∙ ap (λ (rs : List ℕ). own_row b i ++ rs) (own_rows_same a b e is)

-- of a table that is the same
rows_of_same : (x t : Layout) (ends : Bool) → t.grid ≡ x.grid → t.steps.capacity ≡ x.steps.capacity
    → 4 * length x.grid.table.items.items + 4 ≤ x.steps.capacity
    → rows_of (steps_taken ends t).steps.items ≡ own_rows x x.grid.table.items.items
rows_of_same x t ends grid steps room =
    let listed : length t.grid.table.items.items ≡ length x.grid.table.items.items = ap (λ (g : Grid). length g.table.items.items) grid in
    rows_go_out t ends (omega (arith, listed, steps, room))
    ∙ own_rows_same t x grid t.grid.table.items.items ∙ ap (λ (g : Grid). own_rows x g.table.items.items) grid

settled_rows : (x : Layout) (ends : Bool) → 4 * length x.grid.table.items.items + 4 ≤ x.steps.capacity → (b : Bool)
    → rows_of (if b then first_heights ends x else steps_taken ends (rows_raised (first_heights ends x))).steps.items
    ≡ own_rows x x.grid.table.items.items
settled_rows x ends room true =
    let is = heights_are x in
    rows_of_same x (heights_read x) ends (ap (λ (y : Layout). y.grid) is) (ap (λ (y : Layout). y.steps.capacity) is) room
settled_rows x ends room false =
    let is = heights_are x in
    let t : Layout = heights_read x in
    let v : Layout = first_heights ends x in
    let grid : t.grid ≡ x.grid = ap (λ (y : Layout). y.grid) is in
    let steps : t.steps.capacity ≡ x.steps.capacity = ap (λ (y : Layout). y.steps.capacity) is in
    let listed : length t.grid.table.items.items ≡ length x.grid.table.items.items = ap (λ (g : Grid). length g.table.items.items) grid in
    let k : (v.grid ≡ t.grid) × (v.steps.capacity ≡ t.steps.capacity) = steps_keep t ends (omega (arith, listed, steps, room)) in
    let h : Raised v (rows_raised v) = all_raised v in
    rows_of_same x (rows_raised v) ends (h.grid ∙ k.0 ∙ grid) (ap (λ (ss : Items Step). ss.capacity) h.steps ∙ k.1 ∙ steps) room

lines_keep : (y : Layout) → (lines_settled y).steps ≡ y.steps
lines_keep y = turn_same (λ (z : Layout). z.steps) line_settled (λ n z. refl) (length y.grid.cells.items) (without_begins y)

pub rows_read_go_out : RowsReadGoOut
rows_read_go_out most row l ends (signs, room, made) held =
    let x : Layout = ready l in
    let q : Ready l (columns_opened l) x = is_ready l in
    let p : InColumns (forgotten_cells (columns_opened l).grid) (placed_cells (columns_opened l).grid) = in_columns (columns_opened l).grid in
    let same : x.grid.table ≡ l.grid.table = q.kept.table ∙ p.table ∙ q.opens.table in
    let items_room : l.grid.table.items.capacity ≡ item_room most = ap (λ (y : Layout). y.grid.table.items.capacity) made in
    let steps_room : l.steps.capacity ≡ item_room most * 4 + 4 = ap (λ (y : Layout). y.steps.capacity) made in
    let listed : length x.grid.table.items.items ≡ length l.grid.table.items.items = ap (λ (t : Table). length t.items.items) same in
    let steps : x.steps.capacity ≡ l.steps.capacity = ap (λ (ss : Items Step). ss.capacity) q.steps in
    ap (λ (ss : Items Step). rows_of ss.items) (lines_keep (heights_settled ends x))
    ∙ settled_rows x ends (omega (arith, listed, steps, steps_room, items_room, held.items)) (length x.grid.texts.items == 0)
    ∙ ap (λ (t : Table). own_rows x t.items.items) same

-- ---- columns that are measured

long_keeps : (g : Grid) → Keeps (placed_cells g) (with_long_fields (measured_read g))
long_keeps g =
    let a : Grid = placed_cells g in
    let b : Grid = placed_table g in
    let m : Grid = measured_columns b in
    let s : Grid = record m { narrowed = true } in
    keeps_then a b (with_long_fields m) (blocks_read_keeps a)
    (keeps_then b m (with_long_fields m) (columns_keep b)
    (keeps_then m s (with_long_fields m) (keeps_as m m s refl refl refl refl refl (λ stand. stand) (keeps_itself m)) (long_fields_keep s)))

pub fields_read_stand : FieldsReadStand
fields_read_stand g n inside =
    let k : Keeps (placed_cells g) (with_long_fields (measured_read g)) = long_keeps g in
    let p : InColumns (forgotten_cells g) (placed_cells g) = in_columns g in
    let heads : columns (placed_cells g) ≡ columns (forgotten_cells g) = ap (λ (xs : Items Column). length xs.items) p.heads in
    let here : n < length (placed_cells g).cells.items = omega (arith, inside, k.count) in
    (omega (arith, k.firsts n, k.heads, heads, p.fit.1.0 n here), omega (arith, k.lasts n, k.heads, heads, p.fit.1.1 n here))

-- no text is read before
no_texts : (g : Grid) → TextsStand (placed_cells g)
no_texts g n less =
    let p : InColumns (forgotten_cells g) (placed_cells g) = in_columns g in
    absurd (none n (omega (arith, less, ap (λ (ts : Items Block). length ts.items) p.texts)))
  where
    none : (k : ℕ) → k < 0 → ⊥
    none k h = omega (arith, h)

pub texts_read_fit : TextsReadFit
texts_read_fit g n width wide =
    text_fits (with_long_fields (measured_read g)) n width ((long_keeps g).texts (no_texts g)) wide

all_texts_fit : (g : Grid) → WordsEnd (with_long_fields (measured_read g)) → TextsFit (with_long_fields (measured_read g))
all_texts_fit g ends n = (ends n, λ width wide. texts_read_fit g n width wide)

pub read_tables_fit : ReadTablesFit
read_tables_fit l wide little words least over fit =
    let g : Grid = (columns_opened l).grid in
    let k : Keeps (placed_table g) (measured_read g) = columns_keep (placed_table g) in
    let b : Keeps (placed_cells g) (placed_table g) = blocks_read_keeps (placed_cells g) in
    let p : InColumns (forgotten_cells g) (placed_cells g) = in_columns g in
    let heads : columns (placed_cells g) ≡ columns g = ap (λ (xs : Items Column). length xs.items) p.heads in
    let few : columns (measured_read g) ≤ 64 = omega (arith, k.heads, b.heads, heads, few_opened l) in
    tables_fit (placed_table g) wide (few, little, fields_read_stand g, least, over, all_texts_fit g words) fit
