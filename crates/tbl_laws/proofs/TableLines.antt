-- A table of rows that is held goes out as their lines.
use Rattle.std.proofs.Common.{◌≡◌, ℕ, zero, suc, ◌+◌, ◌-◌, ◌*◌, ◌<◌, ◌≤◌, min, max, List, [], ◌∷◌, ◌++◌, length, Bool, true, false, not, ◌==◌, ◌&&◌, ◌||◌, if◌then◌else◌, nat_le, nat_lt, get_or, refl, sym, ◌∙◌, ap, subst, arith}
use Rattle.std.specs.Prelude.{None, Option}
use Rattle.std.proofs.lemmas.Bool.Decides.{nat_tests}
use Rattle.nr_vectors.specs.Items.{Items}
use Rattle.tbl_blocks.specs.Extents.{extent_of}
use Rattle.tbl_columns.specs.declared.grid.Cell.{Cell}
use Rattle.tbl_columns.specs.declared.grid.Column.{Column}
use Rattle.tbl_columns.specs.declared.grid.Grid.{Grid}
use Rattle.tbl_columns.specs.declared.grid.Placed.{Placed}
use Rattle.tbl_columns.specs.Cells.{field_given, no_extent}
use Rattle.tbl_columns.specs.Frames.{bars_beside, bars_of, bars_seen, count, edged, from_last, is_between, is_inside, last_in, or_else, row_above}
use Rattle.tbl_columns.specs.Held.{block_in, cell, cell_of, fresh, height_of, placed, rows_in}
use Rattle.tbl_columns.specs.Measured.{measured_columns, measured_table, placed_table}
use Rattle.tbl_columns.specs.Frames.{table_end}
use Rattle.tbl_columns.specs.Narrow.{is_too_wide}
use Rattle.tbl_columns.specs.Shares.{line_room}
use Rattle.tbl_columns.specs.Texts.{blocks_read, read_at, read_block}
use Rattle.tbl_drawing.specs.declared.layout.Layout.{Layout}
use Rattle.tbl_drawing.specs.declared.layout.Tall.{Tall}
use Rattle.tbl_drawing.specs.declared.pen.Pen.{Pen}
use Rattle.tbl_drawing.specs.Heights.{all_lines, heights_read, last_below, lines_settled, lowest}
use Rattle.tbl_drawing.specs.Held.{lines_of, tall}
use Rattle.tbl_drawing.specs.Lines.{closing, definitions_at, definitions_of, is_kept, lines_strokes, room, room_if, room_to}
use Rattle.tbl_drawing.specs.Pens.{Bytes, bytes_of}
use Rattle.tbl_drawing.specs.ReadTables.{measured_read}
use Rattle.tbl_drawing.specs.Sequences.{joined}
use Rattle.tbl_drawing.specs.Steps.{steps_taken}
use Rattle.tbl_drawing.specs.Tables.{columns_opened, columns_renewed, columns_stand, columns_strokes, laid, measured, ready, table_strokes}
use Rattle.tbl_drawing.specs.Tables as tables
use Rattle.tbl_table.specs.declared.table.Field.{Field}
use Rattle.tbl_table.specs.declared.table.Form.{Form}
use Rattle.tbl_table.specs.declared.table.Form.TheVariants as forms
use Rattle.tbl_table.specs.declared.table.Item.TheVariants as items
use Rattle.tbl_table.specs.declared.table.Key.{Key}
use Rattle.tbl_table.specs.declared.table.Row.{Row}
use Rattle.tbl_table.specs.declared.table.Table.{Table}
use Rattle.tbl_table.specs.Held.{bars_in, is_block, is_text, item, key, line, no_field, row, text_of, usual}
use Rattle.tbl_laws.specs.Lines.{GoesOut, is_wider}
use Rattle.tbl_laws.proofs.DrawnCells.{IsPlain, SpanIs, span_is}
use Rattle.tbl_laws.proofs.DrawnRows.{IsDrawn, IsOwn, gathered, lines_go_out}
use Rattle.tbl_laws.proofs.MeasuredColumns.{columns_alike, none_wide, table_alike}
use Rattle.tbl_laws.proofs.PlacedCells.{IsHeld, all_cells, all_length, form_is, given, given_form, rows_within, the_cell, upto}
use Rattle.tbl_laws.proofs.PlacedTable.{all_have, cell_at, number_is, place_at, placed_is, placed_to, row_owned, same_turn}
use Rattle.tbl_laws.proofs.ReadColumns.{AreLetters, IsLetter, based, columns_are, letter_is, many_length, with_columns}
use Rattle.tbl_laws.proofs.Walked.{AreFlat, HasRows, begins_alone, lines_are, steps_to, with_steps}

-- ---- what is held of rows in so many columns

pub record HeldRow (w : ℕ) (t : Table) (r : ℕ) : Type 0 where
  pub line_is : (row t r).line ≡ 0
  pub first : (row t r).first ≤ (row t r).«end»
  pub few : (row t r).«end» ≤ (row t r).first + w
  pub small : (row t r).«end» < 18446744073709551615

pub record HeldTable (w : ℕ) (l : Layout) : Type 0 where
  pub some : 0 < w
  pub few : w ≤ 64
  pub letters : AreLetters w l.grid.table
  pub texts : (n : ℕ) → (get_or l.grid.table.fields.items n no_field).form ≡ forms.Text
  pub spans : (n : ℕ) → (get_or l.grid.table.fields.items n no_field).span.«end» ≤ length l.grid.table.text.items
  pub sure : (r n : ℕ) → r < length l.grid.table.rows.items → n < (row l.grid.table r).«end»
      → (extent_of (text_of l.grid.table (get_or l.grid.table.fields.items n no_field).span) l.grid.blocks.strings.items).sure ≡ true
  pub rows : (r : ℕ) → r < length l.grid.table.rows.items → HeldRow w l.grid.table r
  pub items_are : (k : ℕ) → k < length l.grid.table.items.items → item l.grid.table k ≡ items.Row k
  pub count_is : length l.grid.table.items.items ≡ length l.grid.table.rows.items
  pub column_room : w ≤ l.grid.columns.capacity
  pub cell_room : length l.grid.table.rows.items * w ≤ l.grid.cells.capacity
  pub number_room : length l.grid.table.rows.items * w ≤ l.grid.numbers.capacity
  pub place_room : length l.grid.table.rows.items ≤ l.grid.placed.capacity
  pub number_small : l.grid.numbers.capacity < 18446744073709551615
  pub step_room : length l.grid.table.items.items + length l.grid.table.items.items ≤ l.steps.capacity
  pub step_small : length l.grid.table.items.items < 18446744073709551615

-- the layout of such a table, before it is measured
abbrev pub based_layout : ℕ → Layout → Layout
based_layout w l = record l {
  grid = record l.grid { table = based w l.grid.table; columns = record l.grid.columns { items = [] } };
  begun = false;
  measured = false;
}

is_held : (w : ℕ) (l : Layout) → HeldTable w l → IsHeld (with_columns w w l.grid) w
is_held w l h = record {
  some = h.some;
  columns_are = many_length w fresh;
  letters = λ c less. letter_is w l.grid.table c h.few less h.letters;
  texts = h.texts;
  rows = λ r inside. (let k = h.rows r inside in record { line_is = k.line_is; first = k.first; few = k.few; small = k.small });
  cell_room = h.cell_room;
  number_room = h.number_room;
  place_room = h.place_room;
  small = h.number_small;
}

-- ---- the field of a column

given_span : (g : Grid) (r : Row) (n : ℕ) → ((k : ℕ) → (get_or g.table.fields.items k no_field).span.«end» ≤ length g.table.text.items)
    → (field_given g r n).span.«end» ≤ length g.table.text.items
given_span g r n h = by_test (nat_lt n r.«end»)
  where
    by_test : (b : Bool) → (if b then get_or g.table.fields.items n no_field else no_field).span.«end» ≤ length g.table.text.items
    by_test true = h n
    by_test false = omega arith

given_sure : (g : Grid) (r : Row) (n : ℕ)
    → ((k : ℕ) → k < r.«end» → (extent_of (text_of g.table (get_or g.table.fields.items k no_field).span) g.blocks.strings.items).sure ≡ true)
    → (extent_of (text_of g.table (field_given g r n).span) g.blocks.strings.items).sure ≡ true
given_sure g r n h = by_test (nat_lt n r.«end») refl
  where
    by_test : (b : Bool) → nat_lt n r.«end» ≡ b
        → (extent_of (text_of g.table (if b then get_or g.table.fields.items n no_field else no_field).span) g.blocks.strings.items).sure ≡ true
    by_test true e = h n (grind (arith, nat_tests, e))
    by_test false e = ap (λ (text : List ℕ). (extent_of text g.blocks.strings.items).sure) ((span_is g.table.text.items no_field.span (omega arith)).none refl)

pub given_is : (u : Grid) (r c : ℕ) → (row u.table r).first ≤ (row u.table r).«end» → (row u.table r).«end» < 18446744073709551615
    → given u r c ≡ min ((row u.table r).first + c) (row u.table r).«end»
given_is u r zero order small = omega (arith, order)
given_is u r (suc c) order small =
    let before = given_is u r c order small in
    ap (λ (n : ℕ). min (min (n + 1) 18446744073709551615) (row u.table r).«end») before
    ∙ (let a = order in let b = small in next (row u.table r).first (row u.table r).«end» c a b)
  where
    next : (first end c : ℕ) → first ≤ end → end < 18446744073709551615 → min (min (min (first + c) end + 1) 18446744073709551615) end ≡ min (first + suc c) end
    next first end c order small = omega (arith, order, small)

-- its text
abbrev pub text_at : Grid → ℕ → ℕ → List ℕ
text_at u r c = text_of u.table (field_given u (row u.table r) (given u r c)).span

letter_bars : (k : Key) → IsLetter k → k.bars ≡ 0
letter_bars k (kind, is, same) = ap (λ (x : Key). x.bars) same

letter_font : (k : Key) → IsLetter k → k.font ≡ None
letter_font k (kind, is, same) = ap (λ (x : Key). x.font) same

-- ---- a table whose columns are measured, its lines, and where its fields begin

abbrev measured_as : ℕ → Layout → Items Column → Layout
measured_as w l x = record l {
  grid = record (placed_to (with_columns w w l.grid) w (length l.grid.table.rows.items)) { columns = x };
  begun = false;
  measured = false;
}

abbrev drawn : ℕ → Layout → Items Column → List Tall → Items ℕ → Layout
drawn w l x talls begins =
    record (with_steps (measured_as w l x) (steps_to (length l.grid.table.items.items)) talls) { begins = begins; measured = false }

-- ---- no bars

no_bars_by : (i j : Bool) → (if i && j then 0 else or_else (edged i 0) (count (if i then false else false))) ≡ 0
no_bars_by true true = refl
no_bars_by true false = refl
no_bars_by false j = refl

or_true : (b : Bool) → (b || true || false) ≡ true
or_true true = refl
or_true false = refl

no_bars_in : (w : ℕ) (l : Layout) (c : ℕ) → HeldTable w l → bars_in (based w l.grid.table) (line (based w l.grid.table) 0) c ≡ 0
no_bars_in w l c h = by_end (c == w)
  where
    by_letter : (b : Bool) → nat_le w c ≡ b → (if b then usual else get_or l.grid.table.keys.items (min (0 + c) 18446744073709551615) usual).bars ≡ 0
    by_letter true e = refl
    by_letter false e =
        (let less : c < w = grind (arith, nat_tests, e) in
        ap (λ (b : Bool). (if b then usual else get_or l.grid.table.keys.items (min (0 + c) 18446744073709551615) usual).bars) (sym e)
        ∙ letter_bars (key (based w l.grid.table) (line (based w l.grid.table) 0) c) (letter_is w l.grid.table c h.few less h.letters))

    by_end : (b : Bool) → (if b then 0 else (if nat_le w c then usual else get_or l.grid.table.keys.items (min (0 + c) 18446744073709551615) usual).bars) ≡ 0
    by_end true = refl
    by_end false = by_letter (nat_le w c) refl

no_bars : (w : ℕ) (l : Layout) (x : Items Column) (r c : ℕ) → HeldTable w l → r < length l.grid.table.rows.items → bars_seen (measured_as w l x).grid r c ≡ 0
no_bars w l x r c h inside =
    let g = (measured_as w l x).grid in
    let own : bars_of g r c ≡ 0 =
    ap (λ (n : ℕ). if is_between g c && is_inside g r c then 0 else or_else (edged (is_between g c) (bars_in g.table (line g.table n) c)) (count (if is_between g c then false else false))) (h.rows r inside).line_is
    ∙ ap (λ (n : ℕ). if is_between g c && is_inside g r c then 0 else or_else (edged (is_between g c) n) (count (if is_between g c then false else false))) (no_bars_in w l c h)
    ∙ no_bars_by (is_between g c) (is_inside g r c) in
    let above : row_above g r ≡ None =
    ap (λ (b : Bool). if b then None else last_in g (row g.table r).line (item g.table ((row g.table r).item - 1))) (or_true ((row g.table r).item == 0)) in
    ap (λ (n : ℕ). or_else n (bars_beside g r c)) own
    ∙ ap (λ (o : Option ℕ). from_last g r c o) above

-- ---- fields in their cells

cell_is : (w : ℕ) (l : Layout) (x : Items Column) (r c : ℕ) → HeldTable w l → length x.items ≡ w → r < length l.grid.table.rows.items → c < w
    → cell (measured_as w l x).grid r c ≡ the_cell (with_columns w w l.grid) r c
cell_is w l x r c h wide inside less =
    let u = with_columns w w l.grid in
    let g = (measured_as w l x).grid in
    let R = length l.grid.table.rows.items in
    let a = h.number_room in
    let b = h.number_small in
    let small : R * w < 18446744073709551615 = omega (arith, a, b) in
    let more : (r + 1) * w ≤ R * w = rows_within r R w inside in
    ap (λ (v : ℕ). cell_of g (get_or (upto (R * w)) (min (min (r * v) 18446744073709551615 + c) 18446744073709551615) 0)) wide
    ∙ ap (cell_of g) (number_is w r c R (R * w) inside less small (omega (arith, more, less)))
    ∙ cell_at u w r c inside less

cell_plain : (w : ℕ) (l z : Layout) (r c : ℕ) → HeldTable w l → z.grid.table.text ≡ l.grid.table.text → r < length l.grid.table.rows.items → c < w
    → IsPlain z (the_cell (with_columns w w l.grid) r c) (text_at (with_columns w w l.grid) r c)
cell_plain w l z r c h text inside less =
    let u = with_columns w w l.grid in
    let f = field_given u (row u.table r) (given u r c) in
    let k = key u.table (line u.table 0) c in
    let letter : IsLetter k = letter_is w l.grid.table c h.few less h.letters in
    let form : f.form ≡ forms.Text = given_form u (row u.table r) (given u r c) h.texts in
    record {
      font = letter_font k letter;
      form = ap (λ (y : Field). y.form) (form_is k f letter) ∙ form;
      sure = ap (λ (y : Form). (if is_text y then extent_of (text_of u.table f.span) u.blocks.strings.items else no_extent).sure) form
          ∙ given_sure u (row u.table r) (given u r c) (λ n within. h.sure r n inside within);
      text_is = ap (λ (y : Items ℕ). Rattle.tbl_table.specs.Held.part y.items f.span) text;
    }

-- all cells have their text in one line, in one row
IsLow : Cell → Type 0
IsLow f = (f.falls ≡ false) × (f.block ≡ None)

all_low : (w : ℕ) (l : Layout) (x : Items Column) (n : ℕ) → IsLow (cell_of (measured_as w l x).grid n)
unfolding IsLow
all_low w l x n = all_have IsLow (with_columns w w l.grid) w (length l.grid.table.rows.items) (refl, refl) (λ q c less few. (refl, refl)) n

-- ---- no room is asked for a row of one line, and nothing is defined in it

lowest_is : (g : Grid) (r k n : ℕ) → ((m : ℕ) → n ≤ m → m < n + k → (cell_of g m).bottom ≡ r) → lowest k g n r ≡ r
lowest_is g r zero n h = refl
lowest_is g r (suc k) n h =
    ap (λ (m : ℕ). lowest k g (n + 1) (max m r)) (h n (omega arith) (omega arith))
    ∙ ap (lowest k g (n + 1)) (itself r)
    ∙ lowest_is g r k (n + 1) (λ m low high. h m (omega (arith, low)) (omega (arith, high)))
  where
    itself : (m : ℕ) → max m m ≡ m
    itself m = omega arith

bottom_is : (w : ℕ) (l : Layout) (x : Items Column) (r m : ℕ) → r < length l.grid.table.rows.items → r * w ≤ m → m < r * w + w
    → (cell_of (measured_as w l x).grid m).bottom ≡ r
bottom_is w l x r m inside low high =
    let g = (measured_as w l x).grid in
    let at : m ≡ r * w + (m - r * w) = omega (arith, low) in
    ap (λ (n : ℕ). (cell_of g n).bottom) at
    ∙ ap (λ (f : Cell). f.bottom) (cell_at (with_columns w w l.grid) w r (m - r * w) inside (omega (arith, low, high)))

-- where the fields of a row stand
place_is : (w : ℕ) (l : Layout) (x : Items Column) (r : ℕ) → r < length l.grid.table.rows.items
    → ((placed (measured_as w l x).grid r).cells ≡ r * w) × ((placed (measured_as w l x).grid r).cells_end - (placed (measured_as w l x).grid r).cells ≡ w)
place_is w l x r inside =
    let u = with_columns w w l.grid in
    let is = place_at u w r inside in
    let a = all_length u w r in
    let b = all_length u w (suc r) in (
      ap (λ (p : Placed). p.cells) is ∙ a,
      ap (λ (p : Placed). p.cells_end - p.cells) is ∙ (let e : length (all_cells u w (suc r)) - length (all_cells u w r) ≡ w = omega (arith, a, b) in e),
    )

no_room : (z : Layout) (r : ℕ) → last_below z r ≡ r → lines_of (tall z r) ≡ 1 → room z r ≡ []
no_room z r last flat =
    ap (room_if z r) last
    ∙ ap (λ (b : Bool). if (not b || nat_lt 1 (lines_of (tall z r))) && not (is_kept z) then room_to z r r else []) (let e : (r == r) ≡ true = grind (arith, nat_tests) in e)
    ∙ ap (λ (n : ℕ). if (false || nat_lt 1 n) && not (is_kept z) then room_to z r r else []) flat

none_joined : (k : ℕ) (given : ℕ → List ℕ) → ((n : ℕ) → given n ≡ []) → joined k given ≡ []
none_joined zero given h = refl
none_joined (suc k) given h = ap (λ (l : List ℕ). l ++ given k) (none_joined k given h) ∙ h k

-- ---- the table that is drawn

is_drawn : (w : ℕ) (l : Layout) (x : Items Column) (talls : List Tall) (begins : Items ℕ) → HeldTable w l → length x.items ≡ w → AreFlat talls
    → IsDrawn (drawn w l x talls begins) w (length l.grid.table.rows.items) (text_at (with_columns w w l.grid))
unfolding IsLow
is_drawn w l x talls begins h wide flat =
    let u = with_columns w w l.grid in
    let z = drawn w l x talls begins in
    let g = (measured_as w l x).grid in
    record {
      columns_are = wide;
      looks = refl;
      bars = λ r c inside. no_bars w l x r c h inside;
      own = λ r c inside less.
          subst (λ (f : Cell). IsOwn f r c) (sym (cell_is w l x r c h wide inside less)) (record { top = refl; first = refl; falls = refl; block = refl });
      plain_is = λ r c inside less.
          subst (λ (f : Cell). IsPlain z f (text_at u r c)) (sym (cell_is w l x r c h wide inside less)) (cell_plain w l z r c h refl inside less);
      spans = λ r c inside less.
          subst (λ (f : Cell). SpanIs l.grid.table.text.items f.field.span) (sym (cell_is w l x r c h wide inside less))
          (span_is l.grid.table.text.items (field_given u (row u.table r) (given u r c)).span (given_span u (row u.table r) (given u r c) h.spans));
      steps_are = ap steps_to h.count_is;
      flat = flat;
      items_are = h.items_are;
      none_defined = λ r inside.
          none_joined ((placed g r).cells_end - (placed g r).cells) (definitions_at z (placed g r).cells)
          (λ n. let f = cell_of g ((placed g r).cells + n) in ap (λ (o : Option ℕ). definitions_of (block_in g o) (text_of z.grid.table f.field.span)) (all_low w l x ((placed g r).cells + n)).1);
      no_room = λ r inside.
          (let p = place_is w l x r inside in
          no_room z r
          (ap (λ (k : ℕ). lowest k g (placed g r).cells r) p.1 ∙ ap (λ (n : ℕ). lowest w g n r) p.0
          ∙ lowest_is g r w (r * w) (λ m low high. bottom_is w l x r m inside low high))
          (flat r));
    }

-- ---- how it comes to be

none_read : (w : ℕ) (l : Layout) → HeldTable w l → placed_table (with_columns w w l.grid) ≡ placed_to (with_columns w w l.grid) w (length l.grid.table.rows.items)
none_read w l h =
    let u = with_columns w w l.grid in
    let R = length l.grid.table.rows.items in
    let p = placed_to u w R in
    ap blocks_read (placed_is u w (is_held w l h))
    ∙ same_turn (length p.cells.items) read_at p (λ n less. ap (λ (b : Bool). if b then read_block n (cell_of p n) p else p) (no_block n))
  where
    no_block : (n : ℕ) → is_block (cell_of (placed_to (with_columns w w l.grid) w (length l.grid.table.rows.items)) n).field.form ≡ false
    no_block n =
        all_have (λ (f : Cell). is_block f.field.form ≡ false) (with_columns w w l.grid) w (length l.grid.table.rows.items) refl
        (λ q c less few.
        let u = with_columns w w l.grid in
        let f = field_given u (row u.table q) (given u q c) in
        let k = key u.table (line u.table 0) c in
        ap (λ (y : Field). is_block y.form) (form_is k f (letter_is w l.grid.table c h.few few h.letters))
        ∙ ap is_block (given_form u (row u.table q) (given u q c) h.texts)) n

has_rows : (w : ℕ) (l : Layout) (x : Items Column) → HeldTable w l → HasRows (measured_as w l x)
unfolding IsLow
has_rows w l x h =
    let u = with_columns w w l.grid in
    let g = (measured_as w l x).grid in
    let held = is_held w l h in
    record {
      item_is = h.items_are;
      own = λ k less. (row_owned u w k held (let c = h.count_is in omega (arith, less, c))).0;
      none_beyond = λ k less.
          (let inside : k < length l.grid.table.rows.items = (let c = h.count_is in omega (arith, less, c)) in
          let hr = h.rows k inside in
          let a = hr.first in let b = hr.few in let s = hr.small in
          let is = given_is u k w a s in
          ap (λ (p : Placed). (row l.grid.table k).«end» - p.beyond) (place_at u w k inside) ∙ omega (arith, a, b, is));
      low = λ n.
          (let f = cell_of g n in
          let e = all_low w l x n in
          ap (λ (b : Bool). if b then 1 else height_of g f) e.0 ∙ ap (λ (o : Option ℕ). rows_in (block_in g o)) e.1);
      room = h.step_room;
      small = h.step_small;
    }

without_not : (a c : Bool) → (a && not false && c) ≡ (a && c)
without_not true c = refl
without_not false c = refl

-- a table that is not narrowed
pub table_goes_out : (w : ℕ) (l : Layout) (p : Pen) → HeldTable w l → (l.grid.room.fits && is_wider (based_layout w l)) ≡ false
    → GoesOut (gathered (λ r. gathered (text_at (with_columns w w l.grid) r) w) (length l.grid.table.rows.items)) (bytes_of (table_strokes true (based_layout w l)) p)
table_goes_out w l p h stays =
    let b = based_layout w l in
    let u = with_columns w w l.grid in
    let R = length l.grid.table.rows.items in
    let P = placed_to u w R in
    let opened_as : Layout = record l { grid = u; begun = false; measured = false } in
    let none : (0 == min (max w 0) 64) ≡ false = (let s = h.some in grind (arith, nat_tests, s)) in
    let opened : columns_opened b ≡ opened_as =
    ap (λ (e : Bool). if e then b else columns_renewed b) none
    ∙ ap (λ (g : Grid). record l { grid = g; begun = false; measured = false }) (columns_are w l.grid h.few h.column_room h.letters) in
    let read = none_read w l h in
    let M = measured_columns P in
    let only = (columns_alike P refl refl (λ c. none_wide w c)).same in
    let wider : is_wider b ≡ nat_lt (line_room M) (table_end M) =
    ap (λ (y : Layout). nat_lt (line_room (measured_read y.grid)) (table_end (measured_read y.grid))) opened
    ∙ ap (λ (g : Grid). nat_lt (line_room (measured_columns g)) (table_end (measured_columns g))) read in
    let narrow : is_too_wide M ≡ false =
    ap (λ (g : Grid). g.room.fits && not M.table.looks.nofit && nat_lt (line_room M) (table_end M)) only
    ∙ ap (λ (g : Grid). l.grid.room.fits && not g.table.looks.nofit && nat_lt (line_room M) (table_end M)) only
    ∙ without_not l.grid.room.fits (nat_lt (line_room M) (table_end M))
    ∙ sym (ap (λ (x : Bool). l.grid.room.fits && x) wider) ∙ stays in
    let alike = table_alike P refl refl (λ c. none_wide w c) narrow in
    let x = (measured_table P).columns in
    let wide : length x.items ≡ w = alike.count ∙ many_length w fresh in
    let V = measured_as w l x in
    let is_ready : ready b ≡ V =
    ap (λ (y : Layout). measured (tables.placed y)) opened
    ∙ ap (λ (g : Grid). record l { grid = measured_table g; begun = false; measured = false }) read
    ∙ ap (λ (g : Grid). record l { grid = g; begun = false; measured = false }) alike.same in
    let Y = steps_taken true (heights_read V) in
    let begins = (lines_settled Y).begins in
    let walked = lines_are V (has_rows w l x h) in
    let is_laid : laid true V ≡ drawn w l x walked.talls begins =
    ap (λ (y : Layout). record y { measured = false }) (begins_alone Y ∙ ap (λ (y : Layout). record y { begins = begins }) walked.same) in
    let out = lines_go_out (drawn w l x walked.talls begins) w R (all_lines true V) (text_at u) p (is_drawn w l x walked.talls begins h wide walked.flat) in
    subst (GoesOut (gathered (λ r. gathered (text_at u r) w) R))
    (sym
    (ap (λ (e : Bool). bytes_of ((if e then [] else Bytes (closing false) ∷ []) ++ lines_strokes (laid true (ready b)) (not (ready b).measured) (all_lines true (ready b)) true) p) none
    ∙ ap (λ (y : Layout). bytes_of (lines_strokes (laid true y) (not y.measured) (all_lines true y) true) p) is_ready
    ∙ ap (λ (y : Layout). bytes_of (lines_strokes y true (all_lines true V) true) p) is_laid))
    out
