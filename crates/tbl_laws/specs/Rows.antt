-- The rows of a table are emitted as they stand on the page (Lesk, "Data"; tbl(1), "Table data"): each field
-- once, in the order of rows and columns.
use Rattle.std.specs.Prelude.{◌≡◌, ℕ, suc, ◌+◌, ◌<◌, ◌≤◌, List, [], ◌∷◌, ◌++◌, length, Bool, true, false, not}
use Rattle.std.specs.Prelude.{◌==◌, ◌&&◌, ◌||◌, Some, codes, if◌then◌else◌}
use Prim.Native.Char.{code}
use Rattle.tbl_table.specs.Rows.{joins}
use Rattle.tbl_reader.specs.declared.field.Mark.TheVariants as marks
use Rattle.tbl_reader.specs.declared.reader.Limits.{Limits}
use Rattle.tbl_reader.specs.declared.state.Mode.TheVariants as modes
use Rattle.tbl_reader.specs.declared.telling.Tell.{Tell}
use Rattle.tbl_reader.specs.declared.telling.Tell.TheVariants as tells
use Rattle.tbl_reader.specs.Ending.{first_page, page_said}
use Rattle.tbl_reader.specs.Fields.{is_rule}
use Rattle.tbl_reader.specs.Heads.{options_end}
use Rattle.tbl_reader.specs.Options.{options_of}
use Rattle.tbl_reader.specs.Pages.{Page}
use Rattle.tbl_reader.specs.Reading.{fed}
use Rattle.tbl_reader.specs.Telling.{Piece}
use Rattle.tbl_reader.specs.Whole.{is_line}
use Rattle.tbl_laws.specs.OutsideText.{IsOutside}

-- ---- the text of a row: its fields, with this byte between them

-- a row has one field at least
pub record Row : Type 0 where
  pub first : List ℕ
  pub others : List (List ℕ)

abbrev pub text_of : ℕ → List ℕ → List (List ℕ) → List ℕ
text_of tab first [] = first
text_of tab first (next ∷ others) = first ++ tab ∷ text_of tab next others

abbrev pub text_of_all : ℕ → List Row → List ℕ
text_of_all tab [] = []
text_of_all tab (r ∷ rs) = (text_of tab r.first r.others ++ code "\n" ∷ []) ++ text_of_all tab rs

-- a field is text without escapes, on one line; neither a rule nor the beginning of a block
abbrev pub is_plain : ℕ → List ℕ → Bool
is_plain tab [] = true
is_plain tab (b ∷ bs) = not ((b == code "\n") || (b == code "\\") || (b == tab)) && is_plain tab bs

abbrev pub is_mark : List ℕ → Bool
is_mark [] = false
is_mark (a ∷ []) = is_rule a
is_mark (a ∷ b ∷ []) = (a == code "T") && (b == code "{")
is_mark (a ∷ b ∷ c ∷ rest) = false

abbrev pub are_fields : ℕ → List ℕ → List (List ℕ) → Bool
are_fields tab first [] = is_plain tab first && not (is_mark first)
are_fields tab first (next ∷ others) = is_plain tab first && not (is_mark first) && are_fields tab next others

-- no request
abbrev pub begins_row : List ℕ → Bool
begins_row [] = true
begins_row (b ∷ bs) = not (b == code ".")

-- as many fields as columns at most, and room for it
pub record IsRow (l : Limits) (tab columns : ℕ) (r : Row) : Type 0 where
  pub few : length r.others < columns
  pub fields : are_fields tab r.first r.others ≡ true
  pub begins : begins_row (text_of tab r.first r.others) ≡ true
  pub fits : length (text_of tab r.first r.others) ≤ l.row

abbrev pub AreRows : Limits → ℕ → ℕ → List Row → Type 0
AreRows l tab columns [] = Unit {0}
AreRows l tab columns (r ∷ rs) = IsRow l tab columns r × AreRows l tab columns rs

-- what separates fields is no backslash, and no newline
abbrev pub separates : ℕ → Bool
separates tab = not ((tab == code "\n") || (tab == code "\\"))

-- ---- a page stands between the rows of a table of so many columns, whose fields this byte separates

pub record IsBetweenRows (tab columns : ℕ) (p : Page) : Type 0 where
  pub mode : p.state.mode ≡ modes.Rows
  pub fields : p.state.fields ≡ 0
  pub kept : p.kept ≡ []
  pub from : p.from ≡ 0
  pub start : p.start ≡ 0
  pub tab_is : p.state.options.tab ≡ tab
  pub blanks : p.state.options.nospaces ≡ false
  pub columns_are : p.state.formats.columns ≡ columns
  pub separated : separates tab ≡ true
  pub few : columns ≤ 64

-- ---- the rows that are emitted, the first of them after these fields of it

abbrev pub field_in : Tell → List ℕ → List (List ℕ)
field_in (tells.Field prefix) text = text ∷ []
field_in (tells.Mark marks.Nothing) text = [] ∷ []
field_in tell text = []

abbrev pub is_row : Tell → Bool
is_row tells.Row = true
is_row tell = false

abbrev pub row_if : Bool → List (List ℕ) → List (List (List ℕ)) → List (List (List ℕ))
row_if true fields rows = fields ∷ rows
row_if false fields rows = rows

abbrev pub left_after : Bool → List (List ℕ) → List (List ℕ)
left_after true fields = []
left_after false fields = fields

abbrev pub rows_emitted : List (List ℕ) → List Piece → List (List (List ℕ))
rows_emitted fields [] = []
rows_emitted fields (p ∷ ps) =
    row_if (is_row p.tell) fields (rows_emitted (left_after (is_row p.tell) (fields ++ field_in p.tell p.text)) ps)

-- nothing else is emitted but what may be wrong with them

abbrev pub is_of_row : Tell → List ℕ → Bool
is_of_row (tells.Field prefix) text = not (joins text)
is_of_row (tells.Mark marks.Nothing) text = true
is_of_row (tells.Wrong complaint) text = true
is_of_row tells.Row text = true
is_of_row tell text = false

abbrev pub are_of_rows : List Piece → Bool
are_of_rows [] = true
are_of_rows (p ∷ ps) = is_of_row p.tell p.text && are_of_rows ps

abbrev pub fields_of_all : List Row → List (List (List ℕ))
fields_of_all [] = []
fields_of_all (r ∷ rs) = (r.first ∷ r.others) ∷ fields_of_all rs

-- ---- the law

-- what is said of the rows, between what is said before and after them
pub record TellsRows (before said : List Piece) (rows : List Row) : Type 0 where
  pub emitted : List Piece
  pub after : List Piece
  pub said_is : said ≡ before ++ emitted ++ after
  pub rows_are : rows_emitted [] emitted ≡ fields_of_all rows
  pub only : are_of_rows emitted ≡ true

abbrev pub RowsAreEmitted : Type 0
RowsAreEmitted =
    (l : Limits) (tab columns : ℕ) (before : List ℕ) (rows : List Row) (rest : List ℕ)
    → IsBetweenRows tab columns (fed before (first_page l)).page → AreRows l tab columns rows
    → TellsRows (fed before (first_page l)).pieces (page_said l (before ++ text_of_all tab rows ++ rest)) rows

-- ---- so a page stands after the line of `.TS` and one line of formats: columns of l, r and c, and a point

abbrev pub is_column : ℕ → Bool
is_column b = (b == code "l") || (b == code "r") || (b == code "c")

abbrev pub are_columns : List ℕ → Bool
are_columns [] = true
are_columns (b ∷ bs) = (is_column b || (b == code " ")) && are_columns bs

abbrev pub columns_in : List ℕ → ℕ
columns_in [] = 0
columns_in (b ∷ bs) = if is_column b then suc (columns_in bs) else columns_in bs

abbrev pub table_with : List ℕ → List ℕ
table_with formats = codes ".TS\n" ++ (formats ++ codes ".") ++ codes "\n"

abbrev pub FormatsAreRead : Type 0
FormatsAreRead =
    (formats : List ℕ) (p : Page) → IsOutside p → are_columns formats ≡ true → 0 < columns_in formats
    → columns_in formats ≤ 64 → length formats < p.limits.formats
    → IsBetweenRows (code "\t") (columns_in formats) (fed (table_with formats) p).page

-- and so where a line of options stands before them: these say what separates fields, and keep blanks
abbrev pub table_of : List ℕ → List ℕ → List ℕ
table_of options formats = codes ".TS\n" ++ (options ++ codes ";") ++ codes "\n" ++ (formats ++ codes ".") ++ codes "\n"

abbrev pub OptionsAreRead : Type 0
OptionsAreRead =
    (options formats : List ℕ) (p : Page) → IsOutside p → is_line options ≡ true → begins_row options ≡ true
    → options_end (options ++ codes ";") ≡ Some (length options) → separates (options_of options).tab ≡ true
    → (options_of options).nospaces ≡ false → are_columns formats ≡ true → 0 < columns_in formats
    → columns_in formats ≤ 64 → length options + length formats + 3 ≤ p.limits.formats
    → IsBetweenRows (options_of options).tab (columns_in formats) (fed (table_of options formats) p).page

-- ---- so the rows of a table are emitted that begins where a page is outside of tables

abbrev pub TablesAreEmitted : Type 0
TablesAreEmitted =
    (l : Limits) (before formats : List ℕ) (rows : List Row) (rest : List ℕ)
    → IsOutside (fed before (first_page l)).page → are_columns formats ≡ true → 0 < columns_in formats
    → columns_in formats ≤ 64 → length formats < l.formats → AreRows l (code "\t") (columns_in formats) rows
    → TellsRows (fed (before ++ table_with formats) (first_page l)).pieces
    (page_said l (before ++ table_with formats ++ text_of_all (code "\t") rows ++ rest)) rows
