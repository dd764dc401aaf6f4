-- The rows of a table are read (Lesk, "Data"; tbl(1), "Table data"), with the rules and the requests among them.
use Rattle.std.specs.Prelude.{ℕ, zero, suc, ◌-◌, Bool, true, ◌==◌, ◌&&◌, ◌||◌, nat_le, nat_lt, List, ◌++◌, length, get_or, Option, None, if◌then◌else◌}
use Prim.Native.Char.{code}
use Rattle.tbl_table.specs.declared.table.Form.{Form}
use Rattle.tbl_table.specs.declared.table.Form.TheVariants as forms
use Rattle.tbl_table.specs.declared.table.Item.TheVariants as items
use Rattle.tbl_table.specs.declared.table.Line.{Line}
use Rattle.tbl_table.specs.declared.table.Row.{Row}
use Rattle.tbl_table.specs.declared.table.Span.{Span}
use Rattle.tbl_table.specs.declared.table.Table.{Table}
use Rattle.tbl_table.specs.Formats.{with_one}
use Rattle.tbl_table.specs.Held.{is_ruling, key, line, text_of}
use Rattle.tbl_table.specs.Sums.{sum}

-- ---- fields

-- the text of a field or a request begins where the text that is held ends
abbrev pub text_begun : Table → Table
text_begun t = record t { from = length t.text.items }

-- a field whose text ends there
abbrev pub field_pushed : Form → ℕ → Option ℕ → Table → Table
field_pushed form end prefix t =
    text_begun
    (record t {
      fields = with_one (record {
        form = form;
        span = record { start = t.from; «end» = end };
        prefix = prefix;
      }) t.fields;
    })

abbrev pub mark_added : Form → Table → Table
mark_added form t = field_pushed form (length t.text.items) None (text_begun t)

abbrev pub block_ended : Table → Table
block_ended t = field_pushed forms.Block (length t.text.items) None t

-- a \c at its end would join rows
abbrev pub joins : List ℕ → Bool
joins text =
    nat_le 2 (length text) && (get_or text (length text - 2) 0 == code "\\")
    && (get_or text (length text - 1) 0 == code "c")

abbrev pub joined : List ℕ → ℕ
joined text = if joins text then 2 else 0

-- more text, if there is room for all of it
abbrev pub texts_added : List ℕ → Table → Table
texts_added text t = record t {
  text = record {
    items = if nat_le (length text) (t.text.capacity - length t.text.items) then t.text.items ++ text
        else t.text.items;
    capacity = t.text.capacity;
  };
}

abbrev pub field_held : ℕ → Option ℕ → Table → Table
field_held left_out prefix t = field_pushed forms.Text (length t.text.items - left_out) prefix t

abbrev pub field_added : List ℕ → Option ℕ → Table → Table
field_added text prefix t = field_held (joined text) prefix (texts_added text (text_begun t))

-- ---- rules and requests

abbrev pub rule_added : Table → Table
rule_added t = record t { items = with_one items.Rule t.items }

-- .\" begins a comment
abbrev pub is_comment : List ℕ → Bool
is_comment text = nat_le 3 (length text) && (get_or text 1 0 == code "\\") && (get_or text 2 0 == code "\"")

abbrev pub request_read : Span → Table → Table
request_read s t =
    if is_comment (text_of t s) then t else record t { items = with_one (items.Request s) t.items }

abbrev pub request_ended : Table → Table
request_ended t = text_begun (request_read (record { start = t.from; «end» = length t.text.items }) t)

-- ---- rows

-- the first letters of a line of formats
abbrev pub are_ruling : ℕ → Table → Line → Bool
are_ruling zero t l = true
are_ruling (suc c) t l = are_ruling c t l && is_ruling (key t l c).kind

-- a line of formats that has no other letters is a rule, and takes no row
abbrev pub is_rule : Table → Line → Bool
is_rule t l = are_ruling l.count t l

abbrev pub with_next_line : ℕ → Table → Table
with_next_line n t = record t { next_line = n }

-- of so many lines of formats the first that are rules; the last line stays
abbrev pub rules_in : ℕ → Table → Table
rules_in zero t = t
rules_in (suc n) t =
    if is_rule t (line t t.next_line) then rules_in n (with_next_line (suc t.next_line) (rule_added t)) else t

abbrev pub rules_skipped : Table → Table
rules_skipped t = rules_in (length t.lines.items - 1 - t.next_line) t

-- the last line of formats serves all rows below it
abbrev pub line_after : Table → ℕ
line_after t = if nat_lt (sum t.next_line 1) (length t.lines.items) then sum t.next_line 1 else t.next_line

-- the row that is read
abbrev pub row_read : Table → Row
row_read t = record {
  first = t.row_from;
  «end» = length t.fields.items;
  line = t.next_line;
  item = length t.items.items;
}

abbrev pub row_added : Table → Table
row_added t = record t {
  rows = with_one (row_read t) t.rows;
  items = with_one (items.Row (length t.rows.items)) t.items;
  row_from = length t.fields.items;
  next_line = line_after t;
}

-- there is room for no other row
abbrev pub has_all_rows : Table → Bool
has_all_rows t =
    nat_le t.rows.capacity (length t.rows.items) || nat_le t.items.capacity (length t.items.items)

abbrev pub row_ended_in : Table → Table
row_ended_in t = if has_all_rows t then t else row_added t

abbrev pub row_ended : Table → Table
row_ended t = row_ended_in (rules_skipped t)

-- ---- how much was read

abbrev pub is_full : Table → Bool
is_full t = nat_le t.text.capacity (length t.text.items)

abbrev pub row_len : Table → ℕ
row_len t = length t.fields.items - t.row_from

-- the rows that were read are to go out before another comes
abbrev pub is_tight : Table → Bool
is_tight t =
    nat_le t.most_text (length t.text.items - t.rows_from) || nat_lt (t.rows.capacity - length t.rows.items) 2
    || nat_lt (t.fields.capacity - length t.fields.items) 66
    || nat_lt (t.items.capacity - length t.items.items) 258
