-- What goes out for the rows of a table: a line for each, on which its fields stand, each once and in the
-- order of columns (Lesk, "Data"; tbl(1), "Table data"). So it is on a page with one table; what stands
-- outside of it goes out as it came.
use Rattle.std.specs.Prelude.{◌≡◌, ℕ, ◌+◌, ◌*◌, ◌<◌, ◌≤◌, List, [], ◌∷◌, ◌++◌, length, replicate, codes, Bool}
use Rattle.std.specs.Prelude.{true, false, not, nat_le, nat_lt, if◌then◌else◌, ◌==◌, ◌&&◌, ◌||◌}
use Prim.Native.Char.{code}
use Rattle.tbl_columns.specs.Frames.{table_end}
use Rattle.tbl_columns.specs.Shares.{line_room}
use Rattle.tbl_drawing.specs.declared.layout.Layout.{Layout}
use Rattle.tbl_drawing.specs.Lines.{tail}
use Rattle.tbl_drawing.specs.ReadTables.{measured_read}
use Rattle.tbl_drawing.specs.Tables.{columns_opened}
use Rattle.tbl_reader.specs.declared.reader.Limits.{Limits}
use Rattle.tbl_reader.specs.Ending.{first_page}
use Rattle.tbl_reader.specs.Reading.{fed}
use Rattle.tbl_reader.specs.Untouched.{is_untouched}
use Rattle.tbl_setting.specs.declared.setting.Setting.{Setting}
use Rattle.tbl_setting.specs.Bounds.{Bounds, page_setting}
use Rattle.tbl_setting.specs.Running.{said_so_far, set_page}
use Rattle.tbl_setting.specs.Setting.{set}
use Rattle.tbl_laws.specs.OutsideText.{IsOutside, table_end as end_line}
use Rattle.tbl_laws.specs.Rows.{AreRows, Row, are_columns, columns_in, fields_of_all, table_with, text_of_all}

-- ---- a line: the fields that have text, with blanks before each; `\&` stands before a line that would begin with a blank, or as a request does

abbrev pub begins_request : ℕ → Bool
begins_request b = (b == code ".") || (b == code "'")

-- before the first byte of a field, where a line begins or goes on
abbrev pub before_field : Bool → ℕ → ℕ → List ℕ
before_field begins blanks b =
    if begins && (not (blanks == 0) || begins_request b) then codes "\\&" ++ replicate blanks (code " ")
    else replicate blanks (code " ")

abbrev pub HasFields : Bool → List (List ℕ) → List ℕ → Type 0
HasFields begins [] line = line ≡ []
HasFields begins ([] ∷ fields) line = HasFields begins fields line
HasFields begins ((b ∷ bs) ∷ fields) line =
    (blanks : ℕ) × (more : List ℕ)
    × (line ≡ before_field begins blanks b ++ (b ∷ bs) ++ more)
    × HasFields false fields more

-- a line for each row, and nothing else
abbrev pub AreLines : List (List (List ℕ)) → List ℕ → Type 0
AreLines [] out = out ≡ []
AreLines (r ∷ rs) out = (line : List ℕ) × (more : List ℕ) × (out ≡ line ++ codes "\n" ++ more) × HasFields true r line
    × AreLines rs more

-- ---- requests stand before the lines, and after them: `*u` and `*I` keep whether lines are filled, and the indent

abbrev pub head : List ℕ
head = codes ".br\n.nr *u \\n(.u\n.nr *I \\n(.i\n.nf\n"

abbrev pub GoesOut : List (List (List ℕ)) → List ℕ → Type 0
GoesOut rows out = (lines : List ℕ) × (out ≡ head ++ lines ++ tail) × AreLines rows lines

-- ---- whether a table, as it is held, is wider than the line, where nothing of it is narrowed

abbrev pub is_wider : Layout → Bool
is_wider l =
    let g = measured_read (columns_opened l).grid in
    nat_lt (line_room g) (table_end g)

-- ---- fields without control characters

abbrev pub is_printing : ℕ → Bool
is_printing b = (nat_le (code " ") b && nat_le b (code "~")) || nat_le 128 b

abbrev pub is_printed : List ℕ → Bool
is_printed [] = true
is_printed (b ∷ bs) = is_printing b && is_printed bs

abbrev pub are_printed : List (List ℕ) → Bool
are_printed [] = true
are_printed (f ∷ fs) = is_printed f && are_printed fs

abbrev pub all_printed : List (List (List ℕ)) → Bool
all_printed [] = true
all_printed (r ∷ rs) = are_printed r && all_printed rs

-- ---- room for the whole table, so that no part of it goes out before its end

pub record FitsIn (l : Limits) (rows : List Row) : Type 0 where
  pub text : length (text_of_all (code "\t") rows) < l.formats
  pub count : length rows * 64 ≤ l.formats
  pub line : 3 ≤ l.row
  pub small : l.formats + l.row < 4294967296

-- ---- what is held of a page of which so much came: whether tables are narrowed that are wider than the line, as on manual pages, and whether
-- the table is

abbrev pub held_after : Bounds → List ℕ → Setting
held_after b bytes = set (said_so_far b.limits bytes) (page_setting b)

abbrev pub narrows : Bounds → List ℕ → Bool
narrows b before = b.fits && (held_after b before).watch.around.manual

abbrev pub reaches_over : Bounds → List ℕ → Bool
reaches_over b bytes = is_wider (held_after b bytes).layout

-- ---- the law, of a table that isn't narrowed

abbrev pub page_with : List ℕ → List ℕ → List Row → List ℕ → List ℕ
page_with before formats rows after =
    before ++ table_with formats ++ text_of_all (code "\t") rows ++ end_line ++ after

abbrev pub FieldsGoOut : Type 0
FieldsGoOut =
    (b : Bounds) (before formats : List ℕ) (rows : List Row) (after : List ℕ)
    → is_untouched before ≡ true → IsOutside (fed before (first_page b.limits)).page → is_untouched after ≡ true
    → are_columns formats ≡ true → 0 < columns_in formats → columns_in formats ≤ 64 → length formats < b.limits.formats
    → AreRows b.limits (code "\t") (columns_in formats) rows → all_printed (fields_of_all rows) ≡ true → FitsIn b.limits rows
    → (narrows b (before ++ codes ".TS\n") && reaches_over b (before ++ table_with formats ++ text_of_all (code "\t") rows)) ≡ false
    → (lines : List ℕ)
    × (set_page b (page_with before formats rows after)
    ≡ before ++ codes ".TS\n" ++ head ++ lines ++ tail ++ end_line ++ after)
    × AreLines (fields_of_all rows) lines
