-- The rows that are emitted are held as they were emitted.
use Rattle.std.proofs.Common.{◌≡◌, ℕ, zero, suc, ◌+◌, ◌<◌, ◌≤◌, List, [], ◌∷◌, ◌++◌, length, Bool, true, false, if◌then◌else◌, nat_lt, refl, sym, ◌∙◌, ap, subst, append_assoc, append-nil, length-append, arith}
use Rattle.tbl_table.specs.declared.table.Field.{Field}
use Rattle.tbl_table.specs.declared.table.Form.TheVariants as forms
use Rattle.tbl_table.specs.declared.table.Item.{Item}
use Rattle.tbl_table.specs.declared.table.Item.TheVariants as items
use Rattle.tbl_table.specs.declared.table.Row.{Row}
use Rattle.tbl_table.specs.declared.table.Table.{Table}
use Rattle.tbl_drawing.specs.Pens.{Stroke}
use Rattle.tbl_table.specs.Rows.{field_added, joins, mark_added, row_added, row_ended, row_read}
use Rattle.std.specs.Prelude.{Option, Some}
use Rattle.tbl_reader.specs.declared.complaint.Complaint.{Complaint}
use Rattle.tbl_reader.specs.declared.field.Mark.TheVariants as marks
use Rattle.tbl_reader.specs.declared.telling.Tell.{Tell}
use Rattle.tbl_reader.specs.declared.telling.Tell.TheVariants as tells
use Rattle.tbl_reader.specs.Telling.{Piece, piece}
use Rattle.tbl_setting.specs.declared.setting.Setting.{Setting}
use Rattle.tbl_setting.specs.Held.{table, table_set, table_strokes, with_table}
use Rattle.tbl_setting.specs.Setting.{relief, relieved, set, strokes}
use Rattle.tbl_laws.specs.HeldRows.{AreAmong, HasRoom, HoldsRows, RowsAreHeld, all_bytes, all_fields, all_of, all_rows, count}
use Rattle.tbl_laws.specs.Rows.{are_of_rows, is_of_row, rows_emitted}
use Rattle.tbl_laws.proofs.HeldRows.{Grown, IsWithin, Like, field_grows, field_like, line_stays, loose, mark_grows, mark_like, no_texts, none_within, one_more, row_is, texts_are, texts_in}
use Rattle.tbl_laws.proofs.Rows.{both_first, both_second, is_not}

-- ---- rows and their fields

among_more : (n : ℕ) (rows : List (List (List ℕ))) (hs : List Row) (r : List (List ℕ)) (h : Row) → AreAmong n rows hs → h.first ≡ n + count rows
    → h.«end» ≡ n + count rows + length r → AreAmong n (rows ++ r ∷ []) (hs ++ h ∷ [])
among_more n [] [] r h a first end = (omega (arith, first), omega (arith, end), tt)
among_more n [] (k ∷ ks) r h a first end = absurd a
among_more n (q ∷ qs) [] r h a first end = absurd a
among_more n (q ∷ qs) (k ∷ ks) r h a first end =
    (a.0, a.1, among_more (n + length q) qs ks r h a.2 (omega (arith, first)) (omega (arith, end)))

count_more : (rows : List (List (List ℕ))) (r : List (List ℕ)) → count (rows ++ r ∷ []) ≡ count rows + length r
count_more [] r = omega arith
count_more (q ∷ qs) r = let more = count_more qs r in omega (arith, more)

all_more : (rows : List (List (List ℕ))) (r : List (List ℕ)) → all_of (rows ++ r ∷ []) ≡ all_of rows ++ r
all_more [] r = append-nil r
all_more (q ∷ qs) r = ap (λ (l : List (List ℕ)). q ++ l) (all_more qs r) ∙ sym (append_assoc q (all_of qs) r)

-- ---- what else is held: fields are text, rows have the first line of formats, and stand below one another

unfoldable pub AreText : List Field → Type 0
AreText [] = Unit {0}
AreText (f ∷ fs) = (f.form ≡ forms.Text) × AreText fs

text_more : (fs : List Field) (f : Field) → AreText fs → f.form ≡ forms.Text → AreText (fs ++ f ∷ [])
unfolding AreText
text_more [] f h is = (is, tt)
text_more (g ∷ gs) f h is = (h.0, text_more gs f h.1 is)

text_if : (room : Bool) (fs : List Field) (f : Field) → AreText fs → f.form ≡ forms.Text → AreText (if room then fs ++ f ∷ [] else fs)
text_if true fs f h is = text_more fs f h is
text_if false fs f h is = h

unfoldable pub AreFirst : List Row → Type 0
AreFirst [] = Unit {0}
AreFirst (h ∷ hs) = (h.line ≡ 0) × AreFirst hs

first_more : (hs : List Row) (h : Row) → AreFirst hs → h.line ≡ 0 → AreFirst (hs ++ h ∷ [])
unfolding AreFirst
first_more [] h a line = (line, tt)
first_more (k ∷ ks) h a line = (a.0, first_more ks h a.1 line)

abbrev pub rows_to : ℕ → List Item
rows_to zero = []
rows_to (suc n) = rows_to n ++ items.Row n ∷ []

-- all else is as in another table
abbrev pub as_in : Table → Table → Table
as_in o t = record o {
  text = record o.text { items = t.text.items };
  fields = record o.fields { items = t.fields.items };
  rows = record o.rows { items = t.rows.items };
  items = record o.items { items = t.items.items };
  next_line = t.next_line;
  row_from = t.row_from;
  from = t.from;
}

-- ---- a table that holds these rows, and these fields of the next

pub record Held (o t : Table) (rows : List (List (List ℕ))) (next : List (List ℕ)) : Type 0 where
  pub forms : AreText t.fields.items
  pub lines : AreFirst t.rows.items
  pub listed : o.items.items ≡ [] → t.items.items ≡ rows_to (length t.rows.items)
  pub same : t ≡ as_in o t
  pub texts : texts_in t.text.items t.fields.items ≡ all_of rows ++ next
  pub among : AreAmong 0 rows t.rows.items
  pub within : IsWithin (length t.text.items) t.fields.items
  pub from : t.row_from ≡ count rows
  pub total : length t.fields.items ≡ count rows + length next

field_held : (o t u : Table) (rows : List (List (List ℕ))) (next : List (List ℕ)) (text : List ℕ) → Held o t rows next → Grown t u text → Like t u
    → AreText u.fields.items → u ≡ as_in t u → Held o u rows (next ++ text ∷ [])
field_held o t u rows next text h g k forms_are same =
    let long = length-append next (text ∷ []) in
    record {
      forms = forms_are;
      lines = subst AreFirst (sym (ap (λ x. x.items) k.rows)) h.lines;
      listed = λ none. ap (λ x. x.items) k.items ∙ h.listed none ∙ ap (λ x. rows_to (length x.items)) (sym k.rows);
      same = same ∙ ap (λ (x : Table). as_in x u) h.same;
      texts = g.texts ∙ ap (λ (l : List (List ℕ)). l ++ text ∷ []) h.texts ∙ append_assoc (all_of rows) next (text ∷ []);
      among = subst (AreAmong 0 rows) (sym (ap (λ x. x.items) k.rows)) h.among;
      within = g.within;
      from = k.from ∙ h.from;
      total = omega (arith, g.fields, h.total, long);
    }

row_held : (o t : Table) (rows : List (List (List ℕ))) (next : List (List ℕ)) → Held o t rows next → t.next_line ≡ 0
    → length t.rows.items < t.rows.capacity → length t.items.items < t.items.capacity → Held o (row_added t) (rows ++ next ∷ []) []
row_held o t rows next h line few room =
    let counted = count_more rows next in
    let more = one_more t.rows.items (row_read t) t.rows.capacity few in
    let long = ap length more ∙ length-append t.rows.items (row_read t ∷ []) in
    record {
      forms = h.forms;
      lines = subst AreFirst (sym more) (first_more t.rows.items (row_read t) h.lines line);
      listed = λ none. one_more t.items.items (items.Row (length t.rows.items)) t.items.capacity room
          ∙ ap (λ (l : List Item). l ++ items.Row (length t.rows.items) ∷ []) (h.listed none)
          ∙ ap rows_to (let n : suc (length t.rows.items) ≡ length (row_added t).rows.items = omega (arith, long) in n);
      same = ap (λ (x : Table). as_in x (row_added t)) h.same;
      texts = h.texts ∙ sym (all_more rows next) ∙ sym (append-nil (all_of (rows ++ next ∷ [])));
      among = subst (AreAmong 0 (rows ++ next ∷ [])) (sym (one_more t.rows.items (row_read t) t.rows.capacity few))
          (among_more 0 rows t.rows.items next (row_read t) h.among (let f = h.from in omega (arith, f)) (let e = h.total in omega (arith, e)));
      within = h.within;
      from = (let e = h.total in omega (arith, e, counted));
      total = (let e = h.total in omega (arith, e, counted));
    }

-- ---- room that is left

field_room : (t u : Table) (p : Piece) (ps : List Piece) (text : List ℕ) → HasRoom t (p ∷ ps) → Grown t u text → Like t u
    → all_bytes (p ∷ ps) ≡ length text + all_bytes ps → all_fields (p ∷ ps) ≡ 1 + all_fields ps → all_rows (p ∷ ps) ≡ all_rows ps → HasRoom u ps
field_room t u p ps text r g k bytes fields rows =
    let rows_are : length u.rows.items ≡ length t.rows.items = ap (λ x. length x.items) k.rows in
    let items_are : length u.items.items ≡ length t.items.items = ap (λ x. length x.items) k.items in
    let room_rows : u.rows.capacity ≡ t.rows.capacity = ap (λ x. x.capacity) k.rows in
    let room_items : u.items.capacity ≡ t.items.capacity = ap (λ x. x.capacity) k.items in
    let lines_are : length u.lines.items ≡ length t.lines.items = ap (λ x. length x.items) k.lines in
    record {
      lines = (let a = r.lines in omega (arith, a, lines_are));
      first = k.first ∙ r.first;
      text = (let a = r.text in omega (arith, a, g.length_is, k.text, bytes));
      most = (let a = r.most in omega (arith, a, g.length_is, k.most, bytes));
      fields = (let a = r.fields in omega (arith, a, g.fields, k.fields, fields));
      rows = (let a = r.rows in omega (arith, a, rows_are, room_rows, rows));
      items = (let a = r.items in omega (arith, a, items_are, room_items, rows));
    }

row_room : (t : Table) (p : Piece) (ps : List Piece) → HasRoom t (p ∷ ps)
    → all_bytes (p ∷ ps) ≡ all_bytes ps → all_fields (p ∷ ps) ≡ all_fields ps → all_rows (p ∷ ps) ≡ 1 + all_rows ps → HasRoom (row_added t) ps
row_room t p ps r bytes fields rows =
    let row_few : length t.rows.items < t.rows.capacity = (let a = r.rows in omega (arith, a)) in
    let item_few : length t.items.items < t.items.capacity = (let a = r.items in omega (arith, a)) in
    let rows_are : length (row_added t).rows.items ≡ length t.rows.items + 1 =
    ap length (one_more t.rows.items _ t.rows.capacity row_few) ∙ length-append t.rows.items _ in
    let items_are : length (row_added t).items.items ≡ length t.items.items + 1 =
    ap length (one_more t.items.items _ t.items.capacity item_few) ∙ length-append t.items.items _ in
    record {
      lines = r.lines;
      first = line_stays t r.lines r.first;
      text = (let a = r.text in omega (arith, a, bytes));
      most = (let a = r.most in omega (arith, a, bytes));
      fields = (let a = r.fields in omega (arith, a, fields));
      rows = (let a = r.rows in omega (arith, a, rows_are, rows));
      items = (let a = r.items in omega (arith, a, items_are, rows));
    }

same_room : (t : Table) (p : Piece) (ps : List Piece) → HasRoom t (p ∷ ps)
    → all_bytes (p ∷ ps) ≡ all_bytes ps → all_fields (p ∷ ps) ≡ all_fields ps → all_rows (p ∷ ps) ≡ all_rows ps → HasRoom t ps
same_room t p ps r bytes fields rows = record {
  lines = r.lines;
  first = r.first;
  text = (let a = r.text in omega (arith, a, bytes));
  most = (let a = r.most in omega (arith, a, bytes));
  fields = (let a = r.fields in omega (arith, a, fields));
  rows = (let a = r.rows in omega (arith, a, rows));
  items = (let a = r.items in omega (arith, a, rows));
}

-- nothing goes out for a row that there is room for, and it stays
row_stays : (t : Table) (s : Setting) (p : Piece) (ps : List Piece) → HasRoom t (p ∷ ps) → HasRoom (row_added t) ps
    → (relieved (with_table (row_ended t) s) ≡ with_table (row_added t) s) × (relief (with_table (row_ended t) s) ≡ [])
row_stays t s p ps r u =
    let row_few : length t.rows.items < t.rows.capacity = (let a = r.rows in omega (arith, a)) in
    let item_few : length t.items.items < t.items.capacity = (let a = r.items in omega (arith, a)) in
    let is = row_is t r.lines r.first row_few item_few in
    let now = with_table (row_added t) s in
    let room =
    loose (row_added t) (let a = u.most in omega (arith, a)) (let a = u.rows in omega (arith, a)) (let a = u.fields in omega (arith, a)) (let a = u.items in omega (arith, a)) in (
      ap (λ (x : Table). relieved (with_table x s)) is ∙ ap (λ (b : Bool). if b then table_set false now else now) room,
      ap (λ (x : Table). relief (with_table x s)) is ∙ ap (λ (b : Bool). if b then table_strokes false now else []) room,
    )

-- ---- one piece after the other

pub record Result (ps : List Piece) (o t : Table) (s : Setting) (rows : List (List (List ℕ))) (next : List (List ℕ)) : Type 0 where
  pub left : List (List ℕ)
  pub now : Table
  pub held : Held o now (rows ++ rows_emitted next ps) left
  pub becomes : set ps (with_table t s) ≡ with_table now s
  pub silent : strokes ps (with_table t s) ≡ []

abbrev pub Next : List Piece → Type 0
Next ps = (o t : Table) (s : Setting) (rows : List (List (List ℕ))) (next : List (List ℕ)) → Held o t rows next → HasRoom t ps → Result ps o t s rows next

abbrev Step : Tell → List ℕ → List Piece → Type 0
Step tell text ps = Next ps → Next (piece tell text ∷ ps)

field_step : (prefix : Option ℕ) (text : List ℕ) (ps : List Piece) → joins text ≡ false → Step (tells.Field prefix) text ps
field_step prefix text ps plain more o t s rows next h r =
    let few : length t.fields.items < t.fields.capacity = (let a = r.fields in omega (arith, a)) in
    let fits : length t.text.items + length text ≤ t.text.capacity = (let a = r.text in omega (arith, a)) in
    let g = field_grows t text prefix h.within plain fits few in
    let k = field_like t text prefix in
    let m = more o (field_added text prefix t) s rows (next ++ text ∷ []) (field_held o t (field_added text prefix t) rows next text h g k
    (text_if (nat_lt (length t.fields.items) t.fields.capacity) t.fields.items _ h.forms refl) refl)
    (field_room t (field_added text prefix t) (piece (tells.Field prefix) text) ps text r g k refl refl (let n : 0 + all_rows ps ≡ all_rows ps = omega arith in n)) in
    record { left = m.left; now = m.now; held = m.held; becomes = m.becomes; silent = m.silent }

mark_step : (text : List ℕ) (ps : List Piece) → Step (tells.Mark marks.Nothing) text ps
mark_step text ps more o t s rows next h r =
    let few : length t.fields.items < t.fields.capacity = (let a = r.fields in omega (arith, a)) in
    let g = mark_grows t h.within few in
    let k = mark_like t in
    let m = more o (mark_added forms.Text t) s rows (next ++ [] ∷ []) (field_held o t (mark_added forms.Text t) rows next [] h g k
    (text_if (nat_lt (length t.fields.items) t.fields.capacity) t.fields.items _ h.forms refl) refl)
    (field_room t (mark_added forms.Text t) (piece (tells.Mark marks.Nothing) text) ps [] r g k refl refl (let n : 0 + all_rows ps ≡ all_rows ps = omega arith in n)) in
    record { left = m.left; now = m.now; held = m.held; becomes = m.becomes; silent = m.silent }

row_step : (text : List ℕ) (ps : List Piece) → Step tells.Row text ps
row_step text ps more o t s rows next h r =
    let few : length t.rows.items < t.rows.capacity = (let a = r.rows in omega (arith, a)) in
    let none : (n : ℕ) → 0 + n ≡ n = λ n. omega arith in
    let room = row_room t (piece tells.Row text) ps r (none (all_bytes ps)) (none (all_fields ps)) refl in
    let item_few : length t.items.items < t.items.capacity = (let a = r.items in omega (arith, a)) in
    let m = more o (row_added t) s (rows ++ next ∷ []) [] (row_held o t rows next h r.first few item_few) room in
    let stays = row_stays t s (piece tells.Row text) ps r room in
    record {
      left = m.left;
      now = m.now;
      silent = ap (λ (l : List Stroke). l ++ strokes ps (relieved (with_table (row_ended t) s))) stays.1
          ∙ ap (strokes ps) stays.0 ∙ m.silent;
      becomes = ap (set ps) stays.0 ∙ m.becomes;
      held = subst (λ (l : List (List (List ℕ))). Held o m.now l m.left) (append_assoc rows (next ∷ []) (rows_emitted [] ps)) m.held;
    }

same_step : (c : Complaint) (text : List ℕ) (ps : List Piece) → Step (tells.Wrong c) text ps
same_step c text ps more o t s rows next h r =
    let none : (n : ℕ) → 0 + n ≡ n = λ n. omega arith in
    let m = more o t s rows next h (same_room t (piece (tells.Wrong c) text) ps r (none (all_bytes ps)) (none (all_fields ps)) (none (all_rows ps))) in
    record {
      left = m.left;
      now = m.now;
      becomes = m.becomes;
      silent = m.silent;
      held = subst (λ (l : List (List ℕ)). Held o m.now (rows ++ rows_emitted l ps) m.left) (sym (append-nil next)) m.held;
    }

never : {A : Type 0} → false ≡ true → A
never h = absurd (let no : false ≡ true = h in cc)

by_tell : (tell : Tell) (text : List ℕ) (ps : List Piece) → is_of_row tell text ≡ true → Step tell text ps
by_tell (tells.Field prefix) text ps is = field_step prefix text ps (is_not _ is)
by_tell (tells.Mark marks.Nothing) text ps is = mark_step text ps
by_tell (tells.Mark marks.Rule) text ps is = never is
by_tell (tells.Mark marks.Inner) text ps is = never is
by_tell (tells.Mark (marks.Repeat b)) text ps is = never is
by_tell (tells.Mark marks.Above) text ps is = never is
by_tell tells.Row text ps is = row_step text ps
by_tell (tells.Wrong c) text ps is = same_step c text ps
by_tell (tells.Table line) text ps is = never is
by_tell (tells.Options x) text ps is = never is
by_tell tells.Formats text ps is = never is
by_tell (tells.Format c) text ps is = never is
by_tell tells.FormatsEnd text ps is = never is
by_tell tells.Block text ps is = never is
by_tell tells.BlockText text ps is = never is
by_tell tells.BlockEnd text ps is = never is
by_tell tells.Rule text ps is = never is
by_tell tells.Request text ps is = never is
by_tell tells.TableEnd text ps is = never is
by_tell tells.Plain text ps is = never is
by_tell tells.Pass text ps is = never is
by_tell tells.PlainEnd text ps is = never is

no_piece : Next []
no_piece o t s rows next h r = record {
  left = next;
  now = t;
  held = subst (λ (l : List (List (List ℕ))). Held o t l next) (sym (append-nil rows)) h;
  becomes = refl;
  silent = refl;
}

pub all_held : (ps : List Piece) → are_of_rows ps ≡ true → Next ps
all_held [] are = no_piece
all_held (p ∷ ps) are = by_tell p.tell p.text ps (both_first _ _ are) (all_held ps (both_second _ _ are))

-- nothing is held yet
none_text : AreText []
unfolding AreText
none_text = tt

none_first : AreFirst []
unfolding AreFirst
none_first = tt

pub none_held : (t : Table) → t.fields.items ≡ [] → t.rows.items ≡ [] → t.row_from ≡ 0 → Held t t [] []
none_held t fields rows from = record {
  forms = subst AreText (sym fields) none_text;
  lines = subst AreFirst (sym rows) none_first;
  listed = λ none. none ∙ ap (λ (l : List Row). rows_to (length l)) (sym rows);
  same = refl;
  texts = ap (texts_in t.text.items) fields ∙ no_texts t.text.items;
  among = subst (AreAmong 0 []) (sym rows) tt;
  within = subst (IsWithin (length t.text.items)) (sym fields) (none_within (length t.text.items));
  from = from;
  total = ap length fields;
}

pub rows_are_held : RowsAreHeld
rows_are_held s ps fields rows from room are =
    let m = all_held ps are (table s) (table s) s [] [] (none_held (table s) fields rows from) room in
    let now = ap table m.becomes in (
      m.left,
      subst (λ (t : Table). HoldsRows t (rows_emitted [] ps) m.left) (sym now)
          (record { texts = texts_are m.now ∙ m.held.texts; among = m.held.among }),
    )
