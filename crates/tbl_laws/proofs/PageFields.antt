-- A page with one table goes out with a line for each row, and the text around it as it came.
use Rattle.std.proofs.Common.{◌≡◌, ℕ, zero, suc, ◌+◌, ◌*◌, ◌/◌, ◌<◌, ◌≤◌, min, List, [], ◌∷◌, ◌++◌, length, codes, Bool, true, false, not, ◌==◌, ◌&&◌, ◌||◌, refl, sym, ◌∙◌, ap, subst, append_assoc, append-nil, length-append, arith, if◌then◌else◌}
use Prim.Native.Char.{code}
use Rattle.tbl_columns.specs.declared.grid.Grid.{Grid}
use Rattle.tbl_drawing.specs.declared.pen.Pen.{Pen}
use Rattle.tbl_drawing.specs.Lines.{tail}
use Rattle.tbl_drawing.specs.Pens.{Stroke, after_all, bytes_of, first}
use Rattle.tbl_drawing.proofs.Tapes.{bytes_of-append}
use Rattle.tbl_reader.specs.Untouched.{is_untouched}
use Rattle.tbl_reader.specs.declared.command.Start.TheVariants as starts
use Rattle.tbl_reader.specs.declared.formats.Formats.{Formats}
use Rattle.tbl_reader.specs.declared.reader.Limits.{Limits}
use Rattle.tbl_reader.specs.declared.state.Mode.{Mode}
use Rattle.tbl_reader.specs.declared.state.Mode.TheVariants as modes
use Rattle.tbl_reader.specs.declared.telling.Tell.TheVariants as tells
use Rattle.tbl_reader.specs.Ending.{finished, first_page, page_said}
use Rattle.tbl_reader.specs.Formats.{first_formats, read}
use Rattle.tbl_reader.specs.HeadLines.{formats_said}
use Rattle.tbl_reader.specs.Pages.{Effect, Page, and_then}
use Rattle.tbl_reader.specs.Reading.{fed}
use Rattle.tbl_reader.specs.Telling.{Piece, each, piece}
use Rattle.tbl_reader.proofs.Keeping.{fed_keeps}
use Rattle.tbl_reader.proofs.Runs.{fed_append}
use Rattle.tbl_reader.proofs.Whole.{lines_are_read}
use Rattle.tbl_setting.specs.declared.setting.Setting.{Setting}
use Rattle.tbl_setting.specs.Bounds.{Bounds, page_setting}
use Rattle.tbl_setting.specs.Held.{table, table_begun, table_strokes, with_table}
use Rattle.tbl_setting.specs.Setting.{set, set_bytes, set_in, strokes}
use Rattle.tbl_table.specs.declared.table.Table.{Table}
use Rattle.tbl_table.specs.Held.{emptied}
use Rattle.tbl_table.specs.Table.{first_table}
use Rattle.tbl_laws.specs.HeldRows.{HasRoom, all_of, count}
use Rattle.tbl_laws.specs.Lines.{AreLines, FieldsGoOut, FitsIn, all_printed, are_printed, head, is_printed, is_printing, is_wider, narrows, page_with, reaches_over}
use Rattle.tbl_laws.specs.OutsideText as outside_text
use Rattle.tbl_laws.specs.Rows.{AreRows, IsBetweenRows, Row, are_columns, are_fields, columns_in, fields_of_all, is_plain, rows_emitted, table_with, text_of, text_of_all}
use Rattle.tbl_laws.proofs.FormatKeys.{formed, keys_of, letters_are, line_heard}
use Rattle.tbl_laws.proofs.Heads.{formats_are_read, head_pieces, head_said}
use Rattle.tbl_setting.proofs.HeardText.{Passed, passed_then, text_passed}
use Rattle.tbl_laws.proofs.HeldLaw.{Held, all_held, none_held}
use Rattle.tbl_laws.proofs.HeldTables.{AllShown, AreFew, AreShown, CanHold, is_shown, rows_go_out}
use Rattle.tbl_laws.proofs.OutsideText.{bytes_both, text_bytes}
use Rattle.tbl_laws.proofs.Rows.{both_first, both_second}
use Rattle.tbl_laws.proofs.TextPasses.{passes}
use Rattle.tbl_laws.proofs.EmittedRows.{SoMuch, bytes_of_all, rows_tell, so_much}

-- ---- what stands on a page fits what is held

plain_shown : (tab : ℕ) (f : List ℕ) → is_plain tab f ≡ true → is_printed f ≡ true → is_shown f ≡ true
unfolding is_shown
plain_shown tab [] h k = refl
plain_shown tab (b ∷ bs) h k =
    both_are ((is_printing b && not (b == code "\\"))) (is_shown bs)
    (both_are (is_printing b) (not (b == code "\\")) (both_first (is_printing b) (is_printed bs) k) (no_backslash (b == code "\n") (b == code "\\") (b == tab) (both_first _ _ h)))
    (plain_shown tab bs (both_second _ _ h) (both_second (is_printing b) (is_printed bs) k))
  where
    both_are : (x y : Bool) → x ≡ true → y ≡ true → (x && y) ≡ true
    both_are true true e f = refl
    both_are true false e f = f
    both_are false y e f = e

    no_backslash : (x y z : Bool) → not (x || y || z) ≡ true → not y ≡ true
    no_backslash false false z e = refl
    no_backslash false true z e = e
    no_backslash true y z e = absurd (let no : false ≡ true = e in cc)

fields_shown : (tab : ℕ) (f : List ℕ) (fs : List (List ℕ)) → are_fields tab f fs ≡ true → are_printed (f ∷ fs) ≡ true → AreShown (f ∷ fs)
unfolding AreShown
fields_shown tab f [] h k = (plain_shown tab f (both_first _ _ h) (both_first (is_printed f) true k), tt)
fields_shown tab f (g ∷ gs) h k =
    (plain_shown tab f (both_first _ _ (both_first _ _ h)) (both_first (is_printed f) (are_printed (g ∷ gs)) k), fields_shown tab g gs (both_second _ _ h) (both_second (is_printed f) (are_printed (g ∷ gs)) k))

all_shown : (l : Limits) (tab w : ℕ) (rows : List Row) → AreRows l tab w rows → all_printed (fields_of_all rows) ≡ true → AllShown (fields_of_all rows)
unfolding AllShown
all_shown l tab w [] are h = tt
all_shown l tab w (r ∷ rs) are h = (
  fields_shown tab r.first r.others are.0.fields (both_first (are_printed (r.first ∷ r.others)) (all_printed (fields_of_all rs)) h),
  all_shown l tab w rs are.1 (both_second (are_printed (r.first ∷ r.others)) (all_printed (fields_of_all rs)) h),
)

all_few : (l : Limits) (tab w : ℕ) (rows : List Row) → AreRows l tab w rows → AreFew w (fields_of_all rows)
unfolding AreFew
all_few l tab w [] are = tt
all_few l tab w (r ∷ rs) are = ((let few = are.0.few in omega (arith, few)), all_few l tab w rs are.1)

rows_count : (rows : List Row) → length (fields_of_all rows) ≡ length rows
rows_count [] = refl
rows_count (r ∷ rs) = ap suc (rows_count rs)

fields_count : (l : Limits) (tab w : ℕ) (rows : List Row) → w ≤ 64 → AreRows l tab w rows → count (fields_of_all rows) ≤ length rows * 64
fields_count l tab w [] few are = omega arith
fields_count l tab w (r ∷ rs) few are = (let m = fields_count l tab w rs few are.1 in let f = are.0.few in omega (arith, m, f, few))

row_bytes : (tab : ℕ) (f : List ℕ) (fs : List (List ℕ)) → bytes_of_all (f ∷ fs) ≤ length (text_of tab f fs)
unfolding bytes_of_all
row_bytes tab f [] = omega arith
row_bytes tab f (g ∷ gs) = (let m = row_bytes tab g gs in let l = length-append f (tab ∷ text_of tab g gs) in omega (arith, m, l))

some_bytes : (xs ys : List (List ℕ)) → bytes_of_all (xs ++ ys) ≡ bytes_of_all xs + bytes_of_all ys
unfolding bytes_of_all
some_bytes [] ys = omega arith
some_bytes (x ∷ xs) ys = (let m = some_bytes xs ys in omega (arith, m))

rows_bytes : (tab : ℕ) (rows : List Row) → bytes_of_all (all_of (fields_of_all rows)) ≤ length (text_of_all tab rows)
unfolding bytes_of_all
rows_bytes tab [] = omega arith
rows_bytes tab (r ∷ rs) =
    let m = rows_bytes tab rs in
    let here = row_bytes tab r.first r.others in
    let both = some_bytes (r.first ∷ r.others) (all_of (fields_of_all rs)) in
    let a = length-append (text_of tab r.first r.others ++ code "\n" ∷ []) (text_of_all tab rs) in
    let b = length-append (text_of tab r.first r.others) (code "\n" ∷ []) in
    omega (arith, m, here, both, a, b)

-- ---- pieces that nothing goes out for, and what becomes of the table

set_both : (ps qs : List Piece) (s : Setting) → set (ps ++ qs) s ≡ set qs (set ps s)
set_both [] qs s = refl
set_both (p ∷ ps) qs s = set_both ps qs (set_in p.tell p.text s)

formats_quiet : (f : Formats) (bytes : List ℕ) (ps : List Piece) (s : Setting) → strokes (formats_said f bytes ++ ps) s ≡ strokes ps (set (formats_said f bytes) s)
formats_quiet f [] ps s = refl
formats_quiet f (b ∷ bs) ps s = formats_quiet (read b f).formats bs ps (set_in (tells.Format (read b f).called) [] s)

-- ---- the line of `.TS`, and the line of formats

-- what is held once a table begins, with `.TS` on this line
begun : ℕ → Setting → Setting
begun line s = table_begun line (set (each tells.Pass (codes ".TS\n")) s)

head_out : (line : ℕ) (bytes : List ℕ) (s : Setting) (pen : Pen) → bytes_of (strokes (head_pieces line bytes) s) pen ≡ codes ".TS\n"
unfolding begun
head_out line bytes s pen =
    let quiet : strokes (formats_said (first_formats 0 0 false) ((bytes ++ codes ".") ++ codes "\n") ++ piece tells.FormatsEnd [] ∷ []) (begun line s) ≡ [] =
    formats_quiet (first_formats 0 0 false) ((bytes ++ codes ".") ++ codes "\n") (piece tells.FormatsEnd [] ∷ []) (begun line s) in
    ap (λ (l : List Stroke). codes ".TS\n" ++ bytes_of l pen) quiet

-- the table after the line of formats
abbrev table_at : ℕ → ℕ → List ℕ → Setting → Table
table_at line n bytes s = formed (suc n) (keys_of bytes) (table (begun line s))

head_set : (line : ℕ) (bytes : List ℕ) (n : ℕ) (s : Setting) → are_columns bytes ≡ true → columns_in bytes ≡ suc n → suc n ≤ 64
    → 64 ≤ (table (begun line s)).keys.capacity → 0 < (table (begun line s)).lines.capacity
    → set (head_pieces line bytes) s ≡ with_table (table_at line n bytes s) (begun line s)
unfolding begun
head_set line bytes n s h is few keys lines =
    let said = formats_said (first_formats 0 0 false) ((bytes ++ codes ".") ++ codes "\n") in
    let end = piece tells.FormatsEnd [] ∷ [] in
    let u = begun line s in
    set_both said end u ∙ ap (set end) (line_heard bytes n (table u) u h is few keys lines)

-- ---- the line of `.TE`

ended_rows : (tab w : ℕ) (q : Page) → IsBetweenRows tab w q → 3 ≤ q.limits.row
    → ((fed outside_text.table_end q).pieces ≡ piece tells.TableEnd [] ∷ each tells.Pass outside_text.table_end) × ((fed outside_text.table_end q).page.state.mode ≡ modes.Passing starts.Nothing)
ended_rows tab w q h row =
    let between : Page = record q { state = record q.state { mode = modes.Rows }; kept = [] } in
    let same : q ≡ between =
    ap (λ (m : Mode). record q { state = record q.state { mode = m } }) h.mode ∙ ap (λ (k : List ℕ). record q { state = record q.state { mode = modes.Rows }; kept = k }) h.kept in
    let reads = lines_are_read (codes ".TE") between refl refl row in (
      ap (λ (x : Page). (fed outside_text.table_end x).pieces) same ∙ ap (λ (e : Effect). e.pieces) reads,
      ap (λ (x : Page). (fed outside_text.table_end x).page.state.mode) same ∙ ap (λ (e : Effect). e.page.state.mode) reads,
    )

end_out : (s : Setting) (pen : Pen) → bytes_of (strokes (piece tells.TableEnd [] ∷ each tells.Pass outside_text.table_end) s) pen ≡ bytes_of (table_strokes true s) pen ++ outside_text.table_end
end_out s pen = bytes_of-append (table_strokes true s) _ pen

-- ---- room

times : (n v w : ℕ) → v ≤ w → n * v ≤ n * w
times zero v w h = omega arith
times (suc n) v w h = (let m = times n v w h in omega (arith, m, h))

quarter : (n m : ℕ) → n * 64 ≤ m → n ≤ m / 64
quarter n m h = omega (arith, h)

rest_of : (m : ℕ) → m ≤ (m / 64 + 2) * 64
rest_of m = omega arith

part_of : (m : ℕ) → (m / 64) * 64 ≤ m
part_of m = omega arith

-- what was held where the page began has room, and so has what is held where a table does
record IsBegun (b : Bounds) (s : Setting) : Type 0 where
  table_is : table s ≡ emptied (first_table b.signs b.limits.formats b.limits.row)
  columns : s.layout.grid.columns.capacity ≡ 64
  cells : s.layout.grid.cells.capacity ≡ min ((b.limits.formats / 64 + 2) * 64) 18446744073709551615
  numbers : s.layout.grid.numbers.capacity ≡ min ((b.limits.formats / 64 + 2) * 64) 18446744073709551615
  places : s.layout.grid.placed.capacity ≡ b.limits.formats / 64 + 2
  steps : s.layout.steps.capacity ≡ ((b.limits.formats / 64 + 2) * 2 + 512) * 4 + 4

is_begun : (b : Bounds) (line : ℕ) (s : Setting) → Passed (page_setting b) s → IsBegun b (begun line s)
unfolding begun
is_begun b line s before =
    let p = passed_then (page_setting b) s (set (each tells.Pass (codes ".TS\n")) s) before (text_passed (codes ".TS\n") s) in
    let k = p.knows.same in
    record {
      table_is = ap (λ (g : Grid). emptied g.table) k;
      columns = ap (λ (g : Grid). g.columns.capacity) k;
      cells = ap (λ (g : Grid). g.cells.capacity) k;
      numbers = ap (λ (g : Grid). g.numbers.capacity) k;
      places = ap (λ (g : Grid). g.placed.capacity) k;
      steps = ap (λ (u : Setting). u.layout.steps.capacity) p.same;
    }

can_hold : (b : Bounds) (line : ℕ) (s : Setting) (n : ℕ) (bytes : List ℕ) (rows : List Row) → IsBegun b (begun line s) → columns_in bytes ≡ suc n → suc n ≤ 64
    → AreRows b.limits (code "\t") (suc n) rows → all_printed (fields_of_all rows) ≡ true → FitsIn b.limits rows
    → CanHold (suc n) (table_at line n bytes s) (begun line s).layout (fields_of_all rows)
unfolding begun
can_hold b line s n bytes rows h is few are printed fits =
    let l = b.limits in
    let most = l.formats in
    let long = rows_count rows in
    let many = fields_count l (code "\t") (suc n) rows few are in
    let wide = times (length rows) (suc n) 64 few in
    let least = fits.count in
    let small = fits.small in
    let room = rest_of most in
    let part = part_of most in
    let quarter_of = quarter (length rows) most least in
    let columns = h.columns in
    let cells = h.cells in
    let numbers = h.numbers in
    let places = h.places in
    let steps = h.steps in
    let all : length rows * suc n ≤ min ((most / 64 + 2) * 64) 18446744073709551615 = omega (arith, wide, least, room, part, small) in
    record {
      some = omega arith;
      few = few;
      based_is = refl;
      letters = λ c less. letters_are bytes c (let i = is in omega (arith, less, i));
      none = refl;
      columns = all_few l (code "\t") (suc n) rows are;
      shown = all_shown l (code "\t") (suc n) rows are printed;
      column_room = omega (arith, few, columns);
      cell_room = subst (λ (k : ℕ). k * suc n ≤ (begun line s).layout.grid.cells.capacity) (sym long) (omega (arith, all, cells));
      number_room = subst (λ (k : ℕ). k * suc n ≤ (begun line s).layout.grid.numbers.capacity) (sym long) (omega (arith, all, numbers));
      place_room = omega (arith, long, quarter_of, places);
      number_small = omega (arith, part, small, numbers);
      step_room = omega (arith, long, quarter_of, steps);
      small = omega (arith, many, least, small);
      step_small = omega (arith, long, least, small);
    }

has_room : (b : Bounds) (line : ℕ) (s : Setting) (n : ℕ) (bytes : List ℕ) (rows : List Row) (ps : List Piece) → IsBegun b (begun line s) → suc n ≤ 64
    → AreRows b.limits (code "\t") (suc n) rows → FitsIn b.limits rows → SoMuch (fields_of_all rows) ps → HasRoom (table_at line n bytes s) ps
has_room b line s n bytes rows ps h few are fits much =
    let l = b.limits in
    let most = l.formats in
    let many = fields_count l (code "\t") (suc n) rows few are in
    let long = rows_count rows in
    let least = fits.count in
    let small = fits.small in
    let line = fits.line in
    let text = fits.text in
    let quarter_of = quarter (length rows) most least in
    let a = much.rows_are in
    let c = much.fields_are in
    let d = much.bytes_are in
    let e = rows_bytes (code "\t") rows in
    let text_room : min (min (most + l.row) 18446744073709551615 + 64) 18446744073709551615 ≡ most + l.row + 64 = omega (arith, small) in
    subst (λ (t : Table). HasRoom (formed (suc n) (keys_of bytes) t) ps) (sym h.table_is) (record {
      lines = omega arith;
      first = refl;
      text = omega (arith, d, e, text, text_room);
      most = omega (arith, d, e, text);
      fields = omega (arith, c, many, least, line, text_room);
      rows = omega (arith, a, long, quarter_of);
      items = omega (arith, a, long, quarter_of);
    })

-- ---- whether tables are narrowed, and whether this one would be

at_mode : Mode → Page → Page
at_mode m p = record p { state = record p.state { mode = m } }

begun_said : (p : Page) → (fed (codes ".TS\n") (at_mode (modes.Passing starts.Nothing) p)).pieces ≡ each tells.Pass (codes ".TS\n") ++ piece (tells.Table p.state.line) [] ∷ []
unfolding at_mode
begun_said p = refl

narrows_is : (b : Bounds) (before : List ℕ) → is_untouched before ≡ true → (fed before (first_page b.limits)).page.state.mode ≡ modes.Passing starts.Nothing
    → narrows b (before ++ codes ".TS\n") ≡ (begun (fed before (first_page b.limits)).page.state.line (set (each tells.Pass before) (page_setting b))).layout.grid.room.fits
unfolding begun at_mode
narrows_is b before clean outside =
    let p0 = first_page b.limits in
    let t = page_setting b in
    let A = each tells.Pass before in
    let pa = fed before p0 in
    let B = each tells.Pass (codes ".TS\n") ++ piece (tells.Table pa.page.state.line) [] ∷ [] in
    let said : (fed (before ++ codes ".TS\n") p0).pieces ≡ A ++ B =
    ap (λ (x : Effect). x.pieces) (fed_append before (codes ".TS\n") p0)
    ∙ ap (λ (x : List Piece). x ++ (fed (codes ".TS\n") pa.page).pieces) (passes p0 before refl clean).emitted
    ∙ ap (λ (m : Mode). A ++ (fed (codes ".TS\n") (at_mode m pa.page)).pieces) outside
    ∙ ap (λ (x : List Piece). A ++ x) (begun_said pa.page) in
    let p = passed_then t (set A t) (set (each tells.Pass (codes ".TS\n")) (set A t)) (text_passed before t) (text_passed (codes ".TS\n") (set A t)) in
    let fits : (set (each tells.Pass (codes ".TS\n")) (set A t)).fits ≡ b.fits = ap (λ (x : Setting). x.fits) p.same in
    ap (λ (ps : List Piece). b.fits && (set ps t).watch.around.manual) said
    ∙ ap (λ (x : Setting). b.fits && x.watch.around.manual) (set_both A B t)
    ∙ ap (λ (x : Bool). x && (set (each tells.Pass (codes ".TS\n")) (set A t)).watch.around.manual) (sym fits)

-- ---- the page

-- one after the other
said_is : (l : Limits) (a b c d e : List ℕ)
    → (let p = first_page l in let pa = fed a p in let pb = fed b pa.page in let pc = fed c pb.page in let pd = fed d pc.page in let pe = fed e pd.page in
    page_said l (a ++ b ++ c ++ d ++ e) ≡ ((((pa.pieces ++ pb.pieces) ++ pc.pieces) ++ pd.pieces) ++ pe.pieces) ++ (finished pe.page).pieces)
said_is l a b c d e =
    let p = first_page l in
    ap (λ (x : Effect). (and_then x finished).pieces)
    (fed_append (a ++ b ++ c ++ d) e p
    ∙ ap (λ (x : Effect). and_then x (fed e)) (fed_append (a ++ b ++ c) d p
    ∙ ap (λ (x : Effect). and_then x (fed d)) (fed_append (a ++ b) c p
    ∙ ap (λ (x : Effect). and_then x (fed c)) (fed_append a b p))))

together : (x h m t e z : List ℕ) → ((x ++ ((h ++ m ++ t) ++ e)) ++ z) ≡ x ++ h ++ m ++ t ++ e ++ z
together x h m t e z =
    ap (λ (l : List ℕ). l ++ z)
    (sym (append_assoc x (h ++ m ++ t) e)
    ∙ ap (λ (l : List ℕ). l ++ e) (sym (append_assoc x (h ++ m) t) ∙ ap (λ (l : List ℕ). l ++ t) (sym (append_assoc x h m))))

by_count : (n : ℕ) (b : Bounds) (before formats : List ℕ) (rows : List Row) (after : List ℕ)
    → is_untouched before ≡ true → (fed before (first_page b.limits)).page.state.mode ≡ modes.Passing starts.Nothing
    → is_untouched after ≡ true → are_columns formats ≡ true → columns_in formats ≡ n → 0 < n → n ≤ 64 → length formats < b.limits.formats
    → AreRows b.limits (code "\t") n rows → all_printed (fields_of_all rows) ≡ true → FitsIn b.limits rows
    → (narrows b (before ++ codes ".TS\n") && reaches_over b (before ++ table_with formats ++ text_of_all (code "\t") rows)) ≡ false
    → (lines : List ℕ)
    × (set_bytes b (page_said b.limits (page_with before formats rows after)) ≡ before ++ codes ".TS\n" ++ head ++ lines ++ tail ++ outside_text.table_end ++ after)
    × AreLines (fields_of_all rows) lines
by_count zero b before formats rows after clean outside rest h is some few room are printed fits stays = absurd (omega (arith, some))
by_count (suc n) b before formats rows after clean outside rest h is some few room are printed fits stays =
    let l = b.limits in
    let tab = code "\t" in
    let p0 = first_page l in
    let pa = fed before p0 in
    let keep_a = fed_keeps before p0 (omega arith) in
    let room_a : length formats < pa.page.limits.formats = subst (λ (x : Limits). length formats < x.formats) (sym keep_a.limits) room in
    let pb = fed (table_with formats) pa.page in
    let keep_b = fed_keeps (table_with formats) pa.page keep_a.fits in
    let i = is in
    let between : IsBetweenRows tab (suc n) pb.page =
    subst (λ (m : ℕ). IsBetweenRows tab m pb.page) is (formats_are_read formats pa.page outside h (omega (arith, i)) (omega (arith, i, few)) room_a) in
    let line = pa.page.state.line in
    let head_is = head_said pa.page formats outside h (omega (arith, i)) (omega (arith, i, few)) room_a in
    let limits_b : pb.page.limits ≡ l = keep_b.limits ∙ keep_a.limits in
    let pc = fed (text_of_all tab rows) pb.page in
    let emitted = rows_tell l tab (suc n) rows pb.page between limits_b are in
    let much = so_much tab (suc n) rows pb.page pc emitted in
    let limits_c : pc.page.limits ≡ l = emitted.limits ∙ limits_b in
    let ends = ended_rows tab (suc n) pc.page emitted.page (subst (λ (x : Limits). 3 ≤ x.row) (sym limits_c) fits.line) in
    let pd = fed outside_text.table_end pc.page in
    let last = passes pd.page after ends.1 rest in
    let pe = fed after pd.page in
    let t = page_setting b in
    let A = each tells.Pass before in
    let H = head_pieces line formats in
    let T = pc.pieces in
    let E = piece tells.TableEnd [] ∷ each tells.Pass outside_text.table_end in
    let Z = each tells.Pass after in
    let said_a : pa.pieces ≡ A = (passes p0 before refl clean).emitted in
    let said : page_said l (page_with before formats rows after) ≡ (((A ++ H) ++ T) ++ E) ++ Z =
    said_is l before (table_with formats) (text_of_all tab rows) outside_text.table_end after
    ∙ ap (λ (x : List Piece). ((((pa.pieces ++ pb.pieces) ++ T) ++ pd.pieces) ++ pe.pieces) ++ x) last.ends
    ∙ append-nil ((((pa.pieces ++ pb.pieces) ++ T) ++ pd.pieces) ++ pe.pieces)
    ∙ ap (λ (x : List Piece). (((x ++ pb.pieces) ++ T) ++ pd.pieces) ++ pe.pieces) said_a
    ∙ ap (λ (x : List Piece). (((A ++ x) ++ T) ++ pd.pieces) ++ pe.pieces) head_is
    ∙ ap (λ (x : List Piece). (((A ++ H) ++ T) ++ x) ++ pe.pieces) ends.0
    ∙ ap (λ (x : List Piece). (((A ++ H) ++ T) ++ E) ++ x) last.emitted in
    let s = set A t in
    let passed = text_passed before t in
    let begins = is_begun b line s passed in
    let v = begun line s in
    let o = table_at line n formats s in
    let keys_room : (table v).keys.capacity ≡ 16384 = ap (λ (x : Table). x.keys.capacity) begins.table_is in
    let lines_room : (table v).lines.capacity ≡ 256 = ap (λ (x : Table). x.lines.capacity) begins.table_is in
    let heads = head_set line formats n s h is few (omega (arith, keys_room)) (omega (arith, lines_room)) in
    let set_ah : set (A ++ H) t ≡ with_table o v = set_both A H t ∙ heads in
    let none : (table v).fields.items ≡ [] = ap (λ (x : Table). x.fields.items) begins.table_is in
    let no_rows : (table v).rows.items ≡ [] = ap (λ (x : Table). x.rows.items) begins.table_is in
    let no_from : (table v).row_from ≡ 0 = ap (λ (x : Table). x.row_from) begins.table_is in
    let held = all_held T emitted.only o o v [] [] (none_held o none no_rows no_from) (has_room b line s n formats rows T begins few are fits much) in
    let rows_is : rows_emitted [] T ≡ fields_of_all rows =
    ap (rows_emitted []) (sym (append-nil T)) ∙ emitted.emitted [] ∙ append-nil (fields_of_all rows) in
    let u = with_table held.now v in
    let set_aht : set ((A ++ H) ++ T) t ≡ u = set_both (A ++ H) T t ∙ ap (set T) set_ah ∙ held.becomes in
    let pen_a = after_all (strokes A t) first in
    let pen_b = after_all (strokes (A ++ H) t) first in
    let pen_c = after_all (strokes ((A ++ H) ++ T) t) first in
    let pen_d = after_all (strokes (((A ++ H) ++ T) ++ E) t) first in
    let said_c : (fed (before ++ table_with formats ++ text_of_all tab rows) p0).pieces ≡ (A ++ H) ++ T =
    ap (λ (x : Effect). x.pieces) (fed_append (before ++ table_with formats) (text_of_all tab rows) p0
    ∙ ap (λ (x : Effect). and_then x (fed (text_of_all tab rows))) (fed_append before (table_with formats) p0))
    ∙ ap (λ (x : List Piece). (x ++ pb.pieces) ++ T) said_a ∙ ap (λ (x : List Piece). (A ++ x) ++ T) head_is in
    let wide_is : reaches_over b (before ++ table_with formats ++ text_of_all tab rows) ≡ is_wider u.layout =
    ap (λ (ps : List Piece). is_wider (set ps t).layout) said_c ∙ ap (λ (x : Setting). is_wider x.layout) set_aht in
    let narrow_is : narrows b (before ++ codes ".TS\n") ≡ v.layout.grid.room.fits = narrows_is b before clean outside in
    let narrow : (u.layout.grid.room.fits && is_wider u.layout) ≡ false =
    sym (ap (λ (x : Bool). x && reaches_over b (before ++ table_with formats ++ text_of_all tab rows)) narrow_is ∙ ap (λ (x : Bool). v.layout.grid.room.fits && x) wide_is) ∙ stays in
    let (lines, goes, are_lines) = rows_go_out (suc n) o held.now v.layout (fields_of_all rows) held.left pen_c (can_hold b line s n formats rows begins is few are printed fits)
    (subst (λ (rs : List (List (List ℕ))). Held o held.now rs held.left) rows_is held.held) narrow in
    let out_a : bytes_of (strokes A t) first ≡ before = text_bytes before t first in
    let out_b : bytes_of (strokes (A ++ H) t) first ≡ before ++ codes ".TS\n" =
    bytes_both A H t first ∙ ap (λ (x : List ℕ). x ++ bytes_of (strokes H (set A t)) pen_a) out_a ∙ ap (λ (x : List ℕ). before ++ x) (head_out line formats (set A t) pen_a) in
    let out_c : bytes_of (strokes ((A ++ H) ++ T) t) first ≡ before ++ codes ".TS\n" =
    bytes_both (A ++ H) T t first ∙ ap (λ (x : List ℕ). x ++ bytes_of (strokes T (set (A ++ H) t)) pen_b) out_b
    ∙ ap (λ (x : Setting). (before ++ codes ".TS\n") ++ bytes_of (strokes T x) pen_b) set_ah
    ∙ ap (λ (x : List Stroke). (before ++ codes ".TS\n") ++ bytes_of x pen_b) held.silent
    ∙ append-nil (before ++ codes ".TS\n") in
    let out_d : bytes_of (strokes (((A ++ H) ++ T) ++ E) t) first ≡ (before ++ codes ".TS\n") ++ ((head ++ lines ++ tail) ++ outside_text.table_end) =
    bytes_both ((A ++ H) ++ T) E t first ∙ ap (λ (x : List ℕ). x ++ bytes_of (strokes E (set ((A ++ H) ++ T) t)) pen_c) out_c
    ∙ ap (λ (x : Setting). (before ++ codes ".TS\n") ++ bytes_of (strokes E x) pen_c) set_aht
    ∙ ap (λ (x : List ℕ). (before ++ codes ".TS\n") ++ x) (end_out u pen_c ∙ ap (λ (x : List ℕ). x ++ outside_text.table_end) goes) in (
      lines,
      ap (set_bytes b) said
          ∙ bytes_both (((A ++ H) ++ T) ++ E) Z t first
          ∙ ap (λ (x : List ℕ). x ++ bytes_of (strokes Z (set (((A ++ H) ++ T) ++ E) t)) pen_d) out_d
          ∙ ap (λ (x : List ℕ). ((before ++ codes ".TS\n") ++ ((head ++ lines ++ tail) ++ outside_text.table_end)) ++ x) (text_bytes after (set (((A ++ H) ++ T) ++ E) t) pen_d)
          ∙ together (before ++ codes ".TS\n") head lines tail outside_text.table_end after,
      are_lines,
    )

pub fields_go_out : FieldsGoOut
fields_go_out b before formats rows after clean outside rest h some few room are printed fits stays =
    by_count (columns_in formats) b before formats rows after clean outside rest h refl some few room are printed fits stays
