-- A table whose rows were emitted holds what its lines need.
use Rattle.std.proofs.Common.{◌≡◌, ℕ, zero, suc, ◌+◌, ◌*◌, ◌<◌, ◌≤◌, min, List, [], ◌∷◌, ◌++◌, length, Bool, true, false, not, ◌==◌, ◌&&◌, ◌||◌, if◌then◌else◌, nat_le, nat_lt, get_or, refl, sym, ◌∙◌, ap, subst, append_assoc, length-append, arith}
use Prim.Native.Char.{code}
use Rattle.std.proofs.Math.ListN.{get_or-append}
use Rattle.std.proofs.Math.Seq.{get_or-append-add, get_or-append_seam}
use Rattle.std.proofs.lemmas.Bool.{le-leb, leb-true}
use Rattle.std.proofs.lemmas.Bool.Decides.{nat_tests}
use Rattle.tbl_blocks.specs.declared.parts.Known.{Known}
use Rattle.tbl_blocks.specs.Extents.{extended, extent_of, measured, measured_from, nothing_measured}
use Rattle.tbl_blocks.specs.Units.{byte_does, escape, is_letter, is_stop, is_sure}
use Rattle.tbl_columns.specs.declared.grid.Grid.{Grid}
use Rattle.tbl_columns.specs.Cells.{field_given}
use Rattle.tbl_columns.proofs.Turns.{if_same, if_true}
use Rattle.tbl_drawing.specs.declared.layout.Layout.{Layout}
use Rattle.tbl_drawing.specs.declared.pen.Pen.{Pen}
use Rattle.tbl_drawing.specs.Pens.{bytes_of}
use Rattle.tbl_drawing.specs.Tables.{table_strokes}
use Rattle.tbl_table.specs.declared.table.Field.{Field}
use Rattle.tbl_table.specs.declared.table.Form.TheVariants as forms
use Rattle.tbl_table.specs.declared.table.Item.{Item}
use Rattle.tbl_table.specs.declared.table.Item.TheVariants as items
use Rattle.tbl_table.specs.declared.table.Row.{Row}
use Rattle.tbl_table.specs.declared.table.Table.{Table}
use Rattle.tbl_table.specs.Held.{no_field, no_row, part, row, text_of}
use Rattle.tbl_table.specs.Sums.{sum}
use Rattle.tbl_laws.specs.HeldRows.{AreAmong, all_of, count}
use Rattle.tbl_laws.specs.Lines.{AreLines, GoesOut, HasFields, is_printing, is_wider}
use Rattle.tbl_laws.proofs.DrawnCells.{span_is}
use Rattle.tbl_laws.proofs.DrawnRows.{gathered}
use Rattle.tbl_laws.proofs.HeldLaw.{AreFirst, AreText, Held, as_in, rows_to}
use Rattle.tbl_laws.proofs.HeldRows.{IsWithin, texts_in}
use Rattle.tbl_laws.proofs.ReadColumns.{AreLetters, with_columns}
use Rattle.tbl_laws.proofs.Rows.{both_first, both_second, is_not}
use Rattle.tbl_laws.proofs.TableLines.{HeldTable, based_layout, given_is, table_goes_out, text_at}

-- ---- what the first numbers give

gathered_same : {A : Type 0} (g h : ℕ → A) (n : ℕ) → ((k : ℕ) → k < n → g k ≡ h k) → gathered g n ≡ gathered h n
gathered_same g h zero e = refl
gathered_same g h (suc n) e =
    ap (λ l. l ++ g n ∷ []) (gathered_same g h n (λ k less. e k (omega (arith, less)))) ∙ ap (λ x. gathered h n ++ x ∷ []) (e n (omega arith))

gathered_first : {A : Type 0} (g : ℕ → A) (n : ℕ) → gathered g (suc n) ≡ g 0 ∷ gathered (λ k. g (suc k)) n
gathered_first g zero = refl
gathered_first g (suc n) = ap (λ l. l ++ g (suc n) ∷ []) (gathered_first g n)

-- empty fields at the end of a row don't show
abbrev nothing : List (List ℕ)
nothing = []

none_shows : (begins : Bool) (w : ℕ) (line : List ℕ) → HasFields begins (gathered (λ c. get_or nothing c []) w) line → HasFields begins [] line
none_shows begins zero line h = h
none_shows begins (suc w) line h =
    none_shows begins w line (subst (λ (l : List (List ℕ)). HasFields begins l line) (gathered_first (λ c. get_or nothing c []) w) h)

row_shows : (begins : Bool) (fields : List (List ℕ)) (w : ℕ) (line : List ℕ) → length fields ≤ w
    → HasFields begins (gathered (λ c. get_or fields c []) w) line → HasFields begins fields line
row_shows begins [] w line few h = none_shows begins w line h
row_shows begins (f ∷ fs) zero line few h = absurd (omega (arith, few))
row_shows begins (f ∷ fs) (suc w) line few h =
    by_text f (subst (λ (l : List (List ℕ)). HasFields begins l line) (gathered_first (λ c. get_or (f ∷ fs) c []) w) h)
    (λ now rest k. row_shows now fs w rest (omega (arith, few)) k)
  where
    by_text : (g : List ℕ) → HasFields begins (g ∷ gathered (λ c. get_or fs c []) w) line
        → ((now : Bool) (rest : List ℕ) → HasFields now (gathered (λ c. get_or fs c []) w) rest → HasFields now fs rest) → HasFields begins (g ∷ fs) line
    by_text [] k more = more begins line k
    by_text (b ∷ bs) (n, rest, is, k) more = (n, rest, is, more false rest k)

-- rows of so many fields at most
unfoldable pub AreFew : ℕ → List (List (List ℕ)) → Type 0
AreFew w [] = Unit {0}
AreFew w (r ∷ rs) = (length r ≤ w) × AreFew w rs

lines_show : (rows : List (List (List ℕ))) (w : ℕ) (out : List ℕ) → AreFew w rows
    → AreLines (gathered (λ r. gathered (λ c. get_or (get_or rows r []) c []) w) (length rows)) out → AreLines rows out
unfolding AreFew
lines_show [] w out few h = h
lines_show (r ∷ rs) w out few h =
    let (line, more, is, fields, rest) = subst (λ (l : List (List (List ℕ))). AreLines l out)
    (gathered_first (λ k. gathered (λ c. get_or (get_or (r ∷ rs) k []) c []) w) (length rs)) h in
    (line, more, is, row_shows true r w line few.0 fields, lines_show rs w more few.1 rest)

-- ---- lists by number

form_at : (fs : List Field) (n : ℕ) → AreText fs → (get_or fs n no_field).form ≡ forms.Text
unfolding AreText
form_at [] n h = refl
form_at (f ∷ fs) zero h = h.0
form_at (f ∷ fs) (suc n) h = form_at fs n h.1

within_at : (fs : List Field) (n m : ℕ) → IsWithin m fs → (get_or fs n no_field).span.«end» ≤ m
unfolding IsWithin
within_at [] n m h = omega arith
within_at (f ∷ fs) zero m h = h.0
within_at (f ∷ fs) (suc n) m h = within_at fs n m h.1

first_at : (hs : List Row) (r : ℕ) → AreFirst hs → r < length hs → (get_or hs r no_row).line ≡ 0
unfolding AreFirst
first_at [] r h less = absurd (omega (arith, less))
first_at (x ∷ xs) zero h less = h.0
first_at (x ∷ xs) (suc r) h less = first_at xs r h.1 (omega (arith, less))

rows_length : (n : ℕ) → length (rows_to n) ≡ n
rows_length zero = refl
rows_length (suc n) = (let l = length-append (rows_to n) (items.Row n ∷ []) in let m = rows_length n in omega (arith, l, m))

rows_at : (n k : ℕ) → k < n → get_or (rows_to n) k items.Rule ≡ items.Row k
rows_at zero k h = absurd (omega (arith, h))
rows_at (suc n) k h = by_test (nat_lt k n) refl (λ less. rows_at n k less)
  where
    long : length (rows_to n) ≡ n
    long = rows_length n

    by_test : (b : Bool) → nat_lt k n ≡ b → (k < n → get_or (rows_to n) k items.Rule ≡ items.Row k) → get_or (rows_to n ++ items.Row n ∷ []) k items.Rule ≡ items.Row k
    by_test true e before =
        (let less : k < n = grind (arith, nat_tests, e) in get_or-append (rows_to n) (items.Row n ∷ []) items.Rule k (omega (arith, less, long)) ∙ before less)
    by_test false e before =
        (let same : k ≡ n = (let m : n ≤ k = grind (arith, nat_tests, e) in omega (arith, m, h)) in
        ap (λ (m : ℕ). get_or (rows_to n ++ items.Row n ∷ []) m items.Rule) (same ∙ sym long) ∙ get_or-append_seam (rows_to n) (items.Row n) [] items.Rule ∙ ap items.Row (sym same))

-- ---- the fields of a row among all of them

-- a row among so many fields
record IsAmong (w total : ℕ) (texts : List (List ℕ)) (h : Row) (fields : List (List ℕ)) : Type 0 where
  few : length fields ≤ w
  small : h.«end» ≤ total
  long : h.«end» ≡ h.first + length fields
  text : (c : ℕ) → c < length fields → get_or texts (h.first + c) [] ≡ get_or fields c []

among_at : (w m r : ℕ) (rows : List (List (List ℕ))) (hs : List Row) (before rest : List (List ℕ)) → length before ≡ m → AreAmong m rows hs → AreFew w rows
    → r < length hs → IsAmong w (m + count rows) (before ++ (all_of rows ++ rest)) (get_or hs r no_row) (get_or rows r [])
unfolding AreFew
among_at w m r [] [] before rest long a few less = absurd (omega (arith, less))
among_at w m r [] (h ∷ hs) before rest long a few less = absurd a
among_at w m r (q ∷ qs) [] before rest long a few less = absurd a
among_at w m zero (q ∷ qs) (h ∷ hs) before rest long a few less =
    let first = a.0 in
    let end = a.1 in
    record {
      few = few.0;
      small = omega (arith, end);
      long = omega (arith, first, end);
      text = λ c inside.
          ap (λ (n : ℕ). get_or (before ++ ((q ++ all_of qs) ++ rest)) (n + c) []) (first ∙ sym long)
          ∙ get_or-append-add before ((q ++ all_of qs) ++ rest) c []
          ∙ get_or-append (q ++ all_of qs) rest [] c (let l = length-append q (all_of qs) in omega (arith, l, inside))
          ∙ get_or-append q (all_of qs) [] c inside;
    }
among_at w m (suc r) (q ∷ qs) (h ∷ hs) before rest long a few less =
    let longer = length-append before q in
    let i = among_at w (m + length q) r qs hs (before ++ q) rest (omega (arith, long, longer)) a.2 few.1 (omega (arith, less)) in
    let small = i.small in
    let same : (before ++ q) ++ (all_of qs ++ rest) ≡ before ++ ((q ++ all_of qs) ++ rest) =
    append_assoc before q (all_of qs ++ rest) ∙ ap (λ (l : List (List ℕ)). before ++ l) (sym (append_assoc q (all_of qs) rest)) in
    record {
      few = i.few;
      small = omega (arith, small);
      long = i.long;
      text = λ c inside. ap (λ (l : List (List ℕ)). get_or l ((get_or hs r no_row).first + c) []) (sym same) ∙ i.text c inside;
    }

among_length : (m : ℕ) (rows : List (List (List ℕ))) (hs : List Row) → AreAmong m rows hs → length hs ≡ length rows
among_length m [] [] a = refl
among_length m [] (h ∷ hs) a = absurd a
among_length m (q ∷ qs) [] a = absurd a
among_length m (q ∷ qs) (h ∷ hs) a = ap suc (among_length (m + length q) qs hs a.2)

texts_at : (text : List ℕ) (fs : List Field) (n : ℕ) → part text (get_or fs n no_field).span ≡ get_or (texts_in text fs) n []
unfolding texts_in
texts_at text [] n = (span_is text no_field.span (omega arith)).none refl
texts_at text (f ∷ fs) zero = refl
texts_at text (f ∷ fs) (suc n) = texts_at text fs n

-- ---- texts whose width shows

abbrev is_plain : ℕ → Bool
is_plain b = is_printing b && not (b == code "\\")

-- what tbl_blocks counts as a cell
abbrev is_printed : ℕ → Bool
is_printed b = nat_le (code " ") b && not (b == 127)

unfoldable pub is_shown : List ℕ → Bool
is_shown [] = true
is_shown (b ∷ bs) = is_plain b && is_shown bs

-- a byte that prints is no control character
prints_by : (b : ℕ) (x y z : Bool) → nat_le 32 b ≡ x → nat_le b 126 ≡ y → nat_le 128 b ≡ z → ((x && y) || z) ≡ true → (32 ≤ b) × ((b == 127) ≡ false)
prints_by b true true z e f g h = (leb-true _ _ e, (let most = leb-true _ _ f in grind (arith, nat_tests, most)))
prints_by b true false true e f g h = (leb-true _ _ e, (let least = leb-true _ _ g in grind (arith, nat_tests, least)))
prints_by b false y true e f g h = ((let least = leb-true _ _ g in omega (arith, least)), (let least = leb-true _ _ g in grind (arith, nat_tests, least)))
prints_by b true false false e f g h = absurd (let no : false ≡ true = h in cc)
prints_by b false y false e f g h = absurd (let no : false ≡ true = h in cc)

printed_is : (b : ℕ) → 32 ≤ b → (b == 127) ≡ false → is_printed b ≡ true
printed_is b low other = ap (λ (x : Bool). x && not (b == 127)) (le-leb 32 b low) ∙ ap (λ (x : Bool). not x) other

sure_by : (b : ℕ) → is_printed b ≡ true → is_sure (byte_does b) ≡ true
sure_by b h =
    if_same is_sure (is_letter b) _ _ true refl
    (if_same is_sure (b == code "-") _ _ true refl
    (if_same is_sure (is_stop b) _ _ true refl
    (if_same is_sure ((b == code " ") || (b == code "\t")) _ _ true refl
    (ap is_sure (if_true (is_printed b) _ _ h)))))

byte_sure : (b : ℕ) → is_plain b ≡ true → (is_sure (byte_does b) && not (b == code "\t")) ≡ true
byte_sure b h =
    let (low, other) = prints_by b (nat_le 32 b) (nat_le b 126) (nat_le 128 b) refl refl refl (both_first (is_printing b) (not (b == code "\\")) h) in
    let tab : (b == code "\t") ≡ false = grind (arith, nat_tests, low) in
    ap (λ (x : Bool). x && not (b == code "\t")) (sure_by b (printed_is b low other)) ∙ ap (λ (x : Bool). not x) tab

byte_measured : (b n : ℕ) (text : List ℕ) (strings : List Known) → is_plain b ≡ true
    → measured b text strings (record nothing_measured { extent = record nothing_measured.extent { cells = n } })
    ≡ record nothing_measured { extent = record nothing_measured.extent { cells = sum n 1 } }
byte_measured b n text strings h =
    let other : (b == code "\\") ≡ false = is_not (b == code "\\") (both_second (is_printing b) (not (b == code "\\")) h) in
    ap
    (λ (x : Bool).
    extended (if x then escape text strings else record { more = 0; cells = 1; does = byte_does b }) b
    (record nothing_measured { extent = record nothing_measured.extent { cells = n } })) other
    ∙ ap (λ (x : Bool). record nothing_measured { extent = record { cells = sum n 1; sure = x } }) (byte_sure b h)

text_sure : (text : List ℕ) (n : ℕ) (strings : List Known) → is_shown text ≡ true
    → (measured_from text strings (record nothing_measured { extent = record nothing_measured.extent { cells = n } })).extent.sure ≡ true
unfolding is_shown
text_sure [] n strings h = refl
text_sure (b ∷ bs) n strings h =
    ap (λ m. (measured_from bs strings m).extent.sure) (byte_measured b n bs strings (both_first (is_plain b) (is_shown bs) h))
    ∙ text_sure bs (sum n 1) strings (both_second (is_plain b) (is_shown bs) h)

unfoldable pub AreShown : List (List ℕ) → Type 0
AreShown [] = Unit {0}
AreShown (f ∷ fs) = (is_shown f ≡ true) × AreShown fs

unfoldable pub AllShown : List (List (List ℕ)) → Type 0
AllShown [] = Unit {0}
AllShown (r ∷ rs) = AreShown r × AllShown rs

both_shown : (xs ys : List (List ℕ)) → AreShown xs → AreShown ys → AreShown (xs ++ ys)
unfolding AreShown
both_shown [] ys h k = k
both_shown (x ∷ xs) ys h k = (h.0, both_shown xs ys h.1 k)

all_shown : (rows : List (List (List ℕ))) → AllShown rows → AreShown (all_of rows)
unfolding AllShown AreShown
all_shown [] h = tt
all_shown (r ∷ rs) h = both_shown r (all_of rs) h.0 (all_shown rs h.1)

shown_at : (texts : List (List ℕ)) (n : ℕ) → AreShown texts → n < length texts → is_shown (get_or texts n []) ≡ true
unfolding AreShown is_shown
shown_at [] n h less = absurd (omega (arith, less))
shown_at (x ∷ xs) zero h less = h.0
shown_at (x ∷ xs) (suc n) h less = shown_at xs n h.1 (omega (arith, less))

all_length : (rows : List (List (List ℕ))) → length (all_of rows) ≡ count rows
all_length [] = refl
all_length (r ∷ rs) = (let l = length-append r (all_of rs) in let m = all_length rs in omega (arith, l, m))

-- ---- a table whose rows were emitted, in a layout

abbrev pub layout_with : Table → Layout → Layout
layout_with t l = record l { grid = record l.grid { table = t } }

pub record CanHold (w : ℕ) (o : Table) (l : Layout) (rows : List (List (List ℕ))) : Type 0 where
  pub some : 0 < w
  pub few : w ≤ 64
  pub based_is : layout_with o l ≡ based_layout w (layout_with o l)
  pub letters : AreLetters w o
  pub none : o.items.items ≡ []
  pub columns : AreFew w rows
  pub shown : AllShown rows
  pub column_room : w ≤ l.grid.columns.capacity
  pub cell_room : length rows * w ≤ l.grid.cells.capacity
  pub number_room : length rows * w ≤ l.grid.numbers.capacity
  pub place_room : length rows ≤ l.grid.placed.capacity
  pub number_small : l.grid.numbers.capacity < 18446744073709551615
  pub step_room : length rows + length rows ≤ l.steps.capacity
  pub small : count rows < 18446744073709551615
  pub step_small : length rows < 18446744073709551615

held_row : (w : ℕ) (o t : Table) (l : Layout) (rows : List (List (List ℕ))) (next : List (List ℕ)) → CanHold w o l rows → Held o t rows next → (r : ℕ) → r < length t.rows.items
    → IsAmong w (0 + count rows) (texts_in t.text.items t.fields.items) (row t r) (get_or rows r [])
held_row w o t l rows next c h r less =
    subst (λ (texts : List (List ℕ)). IsAmong w (0 + count rows) texts (row t r) (get_or rows r [])) (sym h.texts)
    (among_at w 0 r rows t.rows.items [] next refl h.among c.columns less)

held_table : (w : ℕ) (o t : Table) (l : Layout) (rows : List (List (List ℕ))) (next : List (List ℕ)) → CanHold w o l rows → Held o t rows next → HeldTable w (layout_with t l)
held_table w o t l rows next c h =
    let count_is = among_length 0 rows t.rows.items h.among in
    let listed = h.listed c.none in
    let numbered = rows_length (length t.rows.items) in
    let items_count : length t.items.items ≡ length t.rows.items = ap length listed ∙ numbered in
    let total = all_length rows in
    record {
      some = c.some;
      few = c.few;
      letters = subst (λ (x : Table). AreLetters w x) (sym h.same) c.letters;
      texts = λ n. form_at t.fields.items n h.forms;
      spans = λ n. within_at t.fields.items n (length t.text.items) h.within;
      sure = λ r n inside less.
          (let i = held_row w o t l rows next c h r inside in
          let small = i.small in
          let within : n < length (all_of rows) = omega (arith, less, small, total) in
          let text : text_of t (get_or t.fields.items n no_field).span ≡ get_or (all_of rows) n [] =
          texts_at t.text.items t.fields.items n ∙ ap (λ (texts : List (List ℕ)). get_or texts n []) h.texts ∙ get_or-append (all_of rows) next [] n within in
          ap (λ (bytes : List ℕ). (extent_of bytes l.grid.blocks.strings.items).sure) text
          ∙ text_sure (get_or (all_of rows) n []) 0 l.grid.blocks.strings.items (shown_at (all_of rows) n (all_shown rows c.shown) within));
      rows = λ r inside.
          (let i = held_row w o t l rows next c h r inside in
          let long = i.long in let few = i.few in let small = i.small in let least = c.small in
          record {
            line_is = first_at t.rows.items r h.lines inside;
            first = omega (arith, long);
            few = omega (arith, long, few);
            small = omega (arith, small, least);
          });
      items_are = λ k less. ap (λ (is : List Item). get_or is k items.Rule) listed ∙ rows_at (length t.rows.items) k (omega (arith, less, items_count));
      count_is = items_count;
      column_room = c.column_room;
      cell_room = subst (λ (n : ℕ). n * w ≤ l.grid.cells.capacity) (sym count_is) c.cell_room;
      number_room = subst (λ (n : ℕ). n * w ≤ l.grid.numbers.capacity) (sym count_is) c.number_room;
      place_room = (let a = c.place_room in omega (arith, a, count_is));
      number_small = c.number_small;
      step_room = (let a = c.step_room in omega (arith, a, count_is, items_count));
      step_small = (let a = c.step_small in omega (arith, a, count_is, items_count));
    }

-- the fields of a row are those that were emitted
row_is : (w : ℕ) (o t : Table) (l : Layout) (rows : List (List (List ℕ))) (next : List (List ℕ)) → CanHold w o l rows → Held o t rows next → (r : ℕ) → r < length t.rows.items
    → gathered (text_at (with_columns w w (layout_with t l).grid) r) w ≡ gathered (λ c. get_or (get_or rows r []) c []) w
row_is w o t l rows next c h r inside =
    gathered_same (text_at u r) (λ n. get_or (get_or rows r []) n []) w
    (λ n less.
    let i = held_row w o t l rows next c h r inside in
    let long = i.long in let small = i.small in let least = c.small in
    let at = given_is u r n (omega (arith, long)) (omega (arith, small, least)) in
    ap (λ (k : ℕ). text_of t (field_given u (row t r) k).span) at ∙ by_test i n (nat_lt n (length (get_or rows r []))) refl)
  where
    u : Grid
    u = with_columns w w (layout_with t l).grid

    none_at : (xs : List (List ℕ)) (n : ℕ) → length xs ≤ n → [] ≡ get_or xs n []
    none_at [] n e = refl
    none_at (x ∷ xs) zero e = absurd (omega (arith, e))
    none_at (x ∷ xs) (suc n) e = none_at xs n (omega (arith, e))

    by_test : IsAmong w (0 + count rows) (texts_in t.text.items t.fields.items) (row t r) (get_or rows r []) → (n : ℕ) → (b : Bool) → nat_lt n (length (get_or rows r [])) ≡ b
        → text_of t (field_given u (row t r) (min ((row t r).first + n) (row t r).«end»)).span ≡ get_or (get_or rows r []) n []
    by_test i n true e =
        (let less : n < length (get_or rows r []) = grind (arith, nat_tests, e) in
        let long = i.long in
        let at : min ((row t r).first + n) (row t r).«end» ≡ (row t r).first + n = omega (arith, long, less) in
        let inside : nat_lt ((row t r).first + n) (row t r).«end» ≡ true = grind (arith, nat_tests, long, less) in
        ap (λ (k : ℕ). text_of t (field_given u (row t r) k).span) at
        ∙ ap (λ (x : Bool). text_of t (if x then get_or t.fields.items ((row t r).first + n) no_field else no_field).span) inside
        ∙ texts_at t.text.items t.fields.items ((row t r).first + n)
        ∙ i.text n less)
    by_test i n false e =
        (let most : length (get_or rows r []) ≤ n = grind (arith, nat_tests, e) in
        let long = i.long in
        let at : min ((row t r).first + n) (row t r).«end» ≡ (row t r).«end» = omega (arith, long, most) in
        let outside : nat_lt (row t r).«end» (row t r).«end» ≡ false = grind (arith, nat_tests) in
        ap (λ (k : ℕ). text_of t (field_given u (row t r) k).span) at
        ∙ ap (λ (x : Bool). text_of t (if x then get_or t.fields.items (row t r).«end» no_field else no_field).span) outside
        ∙ (span_is t.text.items no_field.span (omega arith)).none refl
        ∙ none_at (get_or rows r []) n most)

pub rows_go_out : (w : ℕ) (o t : Table) (l : Layout) (rows : List (List (List ℕ))) (next : List (List ℕ)) (p : Pen) → CanHold w o l rows → Held o t rows next
    → (l.grid.room.fits && is_wider (layout_with t l)) ≡ false → GoesOut rows (bytes_of (table_strokes true (layout_with t l)) p)
rows_go_out w o t l rows next p c h stays =
    let R = length t.rows.items in
    let here = layout_with t l in
    let u = with_columns w w here.grid in
    let base : here ≡ based_layout w here =
    ap (λ (x : Table). layout_with x l) h.same
    ∙ ap (λ (x : Layout). layout_with (as_in x.grid.table t) x) c.based_is
    ∙ ap (λ (x : Table). based_layout w (layout_with x l)) (sym h.same) in
    let narrow = sym (ap (λ (x : Layout). l.grid.room.fits && is_wider x) base) ∙ stays in
    let (lines, is, all) = table_goes_out w here p (held_table w o t l rows next c h) narrow in
    let count_is = among_length 0 rows t.rows.items h.among in
    let texts : gathered (λ r. gathered (text_at u r) w) R ≡ gathered (λ r. gathered (λ c. get_or (get_or rows r []) c []) w) (length rows) =
    gathered_same (λ r. gathered (text_at u r) w) (λ r. gathered (λ c. get_or (get_or rows r []) c []) w) R (λ r less. row_is w o t l rows next c h r less)
    ∙ ap (gathered (λ r. gathered (λ c. get_or (get_or rows r []) c []) w)) count_is in (
      lines,
      ap (λ (x : Layout). bytes_of (table_strokes true x) p) base ∙ is,
      lines_show rows w lines c.columns (subst (λ (rs : List (List (List ℕ))). AreLines rs lines) texts all),
    )
