-- The formats of a table are read (Lesk, "Format"; tbl(1), "Table format specification"): lines of letters, and what modifies them.
use Rattle.std.specs.Prelude.{ℕ, ◌+◌, ◌-◌, ◌*◌, min, true, ◌==◌, ◌&&◌, nat_le, nat_lt, [], ◌∷◌, ◌++◌, length, get_or, slice_set, Some, if◌then◌else◌}
use Prim.Native.Char.{code}
use Rattle.nr_vectors.specs.Items.{Items}
use Rattle.tbl_blocks.specs.declared.parts.Font.{Font}
use Rattle.tbl_table.specs.declared.table.Key.{Key}
use Rattle.tbl_table.specs.declared.table.Kind.{Kind}
use Rattle.tbl_table.specs.declared.table.Kind.TheVariants as kinds
use Rattle.tbl_table.specs.declared.table.Line.{Line}
use Rattle.tbl_table.specs.declared.table.Open.{Open}
use Rattle.tbl_table.specs.declared.table.Open.TheVariants as opens
use Rattle.tbl_table.specs.declared.table.Stand.{Stand}
use Rattle.tbl_table.specs.declared.table.Table.{Table}
use Rattle.tbl_table.specs.Held.{no_line, usual}
use Rattle.tbl_table.specs.Sums.{sum}

-- one more, if there is room
abbrev pub with_one : {A : Type 0} → A → Items A → Items A
with_one a i =
    record {
      items = if nat_lt (length i.items) i.capacity then i.items ++ a ∷ [] else i.items;
      capacity = i.capacity;
    }

-- the last of some is another, if there is one
abbrev pub with_last : {A : Type 0} → A → Items A → Items A
with_last a i = record { items = slice_set i.items (length i.items - 1) a; capacity = i.capacity }

abbrev pub text_added : ℕ → Table → Table
text_added b t = record t { text = with_one b t.text }

-- ---- the letter that was read last, and the line

abbrev pub last_key : Table → Key
last_key t = get_or t.keys.items (length t.keys.items - 1) usual

abbrev pub with_last_key : Key → Table → Table
with_last_key k t = record t { keys = with_last k t.keys }

abbrev pub last_line : Table → Line
last_line t = get_or t.lines.items (length t.lines.items - 1) no_line

abbrev pub with_last_line : Line → Table → Table
with_last_line l t = record t { lines = with_last l t.lines }

abbrev pub line_begun : Table → Table
line_begun t =
    record t { lines = with_one (record { first = length t.keys.items; count = 0; bars = 0 }) t.lines }

abbrev pub line_ended : ℕ → Table → Table
line_ended bars t = with_last_line (record (last_line t) { bars = bars }) t

-- the line has one letter more
abbrev pub one_counted : Table → Table
one_counted t = with_last_line (record (last_line t) { count = sum (last_line t).count 1 }) t

abbrev pub key_added : Kind → ℕ → Table → Table
key_added kind bars t =
    if nat_le t.keys.capacity (length t.keys.items) then t else
    one_counted (record t { keys = with_one (record usual { kind = kind; bars = bars }) t.keys })

-- ---- what modifies the last letter

abbrev pub font_set : Font → Table → Table
font_set font t = with_last_key (record (last_key t) { font = Some font }) t

abbrev pub equal_set : Table → Table
equal_set t = with_last_key (record (last_key t) { equal = true }) t

abbrev pub wide_set : Table → Table
wide_set t = with_last_key (record (last_key t) { wide = true }) t

abbrev pub zero_set : Table → Table
zero_set t = with_last_key (record (last_key t) { zero = true }) t

abbrev pub stand_set : Stand → Table → Table
stand_set stand t = with_last_key (record (last_key t) { stand = stand }) t

-- a width, whose text is held, or a space, a number of 100,000 at most
abbrev pub opening : Open → Table → Table
opening o t = record t { «open» = o }

abbrev pub width_begun : Table → Table
width_begun t = opening (opens.Width (length t.text.items)) t

abbrev pub gap_begun : ℕ → Table → Table
gap_begun digit t = opening (opens.Gap (digit - code "0")) t

abbrev pub closed_in : Open → Table → Table
closed_in opens.Nothing t = t
closed_in (opens.Width start) t =
    let end = length t.text.items in
    if nat_lt start end
    then with_last_key (record (last_key t) { width = Some (record { start = start; «end» = end }) }) t
    else t
closed_in (opens.Gap gap) t = with_last_key (record (last_key t) { gap = Some gap }) t

-- what is open ends, where it is empty without effect
abbrev pub closed : Table → Table
closed t = opening opens.Nothing (closed_in t.«open» t)

abbrev pub byte_in : Open → ℕ → Table → Table
byte_in opens.Nothing b t = t
byte_in (opens.Width start) b t = if b == code "\n" then closed t else text_added b t
byte_in (opens.Gap gap) b t = opening (opens.Gap (min (gap * 10 + (b - code "0")) 100000)) t

abbrev pub byte_added : ℕ → Table → Table
byte_added b t = byte_in t.«open» b t

-- ---- formats, at first or after .T&

abbrev pub formats_begun : Table → Table
formats_begun t = record t { next_line = length t.lines.items }

-- one line of one letter, where there is none
abbrev pub with_a_line : Table → Table
with_a_line t =
    if nat_le (length t.lines.items) t.next_line then key_added kinds.Left 0 (line_begun (formats_begun t))
    else t

-- the text of rows begins, where none of them was read
abbrev pub rows_begun : Table → Table
rows_begun t = record t {
  rows_from =
      if (length t.rows.items == 0) && (length t.items.items == 0) then length t.text.items else t.rows_from;
  from = length t.text.items;
}

abbrev pub formats_ended : Table → Table
formats_ended t = rows_begun (with_a_line (closed t))
