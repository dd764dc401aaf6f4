-- The rows that are emitted are held as they were emitted, until the table goes out: the text of each field
-- once, in their order.
use Rattle.std.specs.Prelude.{◌≡◌, ℕ, ◌+◌, ◌<◌, ◌≤◌, List, [], ◌∷◌, ◌++◌, length, map, true}
use Rattle.tbl_reader.specs.declared.telling.Tell.{Tell}
use Rattle.tbl_reader.specs.declared.telling.Tell.TheVariants as tells
use Rattle.tbl_reader.specs.Telling.{Piece}
use Rattle.tbl_table.specs.declared.table.Field.{Field}
use Rattle.tbl_table.specs.declared.table.Row.{Row}
use Rattle.tbl_table.specs.declared.table.Table.{Table}
use Rattle.tbl_table.specs.Held.{text_of}
use Rattle.tbl_setting.specs.declared.setting.Setting.{Setting}
use Rattle.tbl_setting.specs.Held.{table}
use Rattle.tbl_setting.specs.Setting.{set}
use Rattle.tbl_laws.specs.Rows.{are_of_rows, rows_emitted}

-- ---- a table that holds rows

abbrev pub texts_held : Table → List (List ℕ)
texts_held t = map (λ (f : Field). text_of t f.span) t.fields.items

-- so many fields are in rows
abbrev pub count : List (List (List ℕ)) → ℕ
count [] = 0
count (r ∷ rs) = length r + count rs

abbrev pub all_of : List (List (List ℕ)) → List (List ℕ)
all_of [] = []
all_of (r ∷ rs) = r ++ all_of rs

-- from which field to which each row has them, after so many
abbrev pub AreAmong : ℕ → List (List (List ℕ)) → List Row → Type 0
AreAmong n [] [] = Unit {0}
AreAmong n [] (h ∷ hs) = ⊥
AreAmong n (r ∷ rs) [] = ⊥
AreAmong n (r ∷ rs) (h ∷ hs) = (h.first ≡ n) × (h.«end» ≡ n + length r) × AreAmong (n + length r) rs hs

-- these rows, and these fields of the next
pub record HoldsRows (t : Table) (rows : List (List (List ℕ))) (next : List (List ℕ)) : Type 0 where
  pub texts : texts_held t ≡ all_of rows ++ next
  pub among : AreAmong 0 rows t.rows.items

-- ---- room: for these pieces, so that no part of the table goes out before its end

abbrev pub bytes_in : Tell → List ℕ → ℕ
bytes_in (tells.Field prefix) text = length text
bytes_in tell text = 0

abbrev pub fields_in : Tell → ℕ
fields_in (tells.Field prefix) = 1
fields_in (tells.Mark mark) = 1
fields_in tell = 0

abbrev pub rows_in : Tell → ℕ
rows_in tells.Row = 1
rows_in tell = 0

abbrev pub all_bytes : List Piece → ℕ
all_bytes [] = 0
all_bytes (p ∷ ps) = bytes_in p.tell p.text + all_bytes ps

abbrev pub all_fields : List Piece → ℕ
all_fields [] = 0
all_fields (p ∷ ps) = fields_in p.tell + all_fields ps

abbrev pub all_rows : List Piece → ℕ
all_rows [] = 0
all_rows (p ∷ ps) = rows_in p.tell + all_rows ps

-- of a table with one line of formats
pub record HasRoom (t : Table) (ps : List Piece) : Type 0 where
  pub lines : length t.lines.items ≤ 1
  pub first : t.next_line ≡ 0
  pub text : length t.text.items + all_bytes ps ≤ t.text.capacity
  pub most : length t.text.items + all_bytes ps < t.most_text
  pub fields : length t.fields.items + all_fields ps + 66 ≤ t.fields.capacity
  pub rows : length t.rows.items + all_rows ps + 2 ≤ t.rows.capacity
  pub items : length t.items.items + all_rows ps + 258 ≤ t.items.capacity

-- ---- the law

abbrev pub RowsAreHeld : Type 0
RowsAreHeld =
    (s : Setting) (ps : List Piece) → (table s).fields.items ≡ [] → (table s).rows.items ≡ [] → (table s).row_from ≡ 0
    → HasRoom (table s) ps → are_of_rows ps ≡ true
    → (next : List (List ℕ)) × HoldsRows (table (set ps s)) (rows_emitted [] ps) next
