-- What a page says of a table, as calls of the table that is held: what becomes of the table that is held. Nothing goes out for it.
use Rattle.std.specs.Prelude.{ℕ, zero, suc, Bool, List, [], ◌∷◌, if◌then◌else◌}
use Rattle.tbl_reader.specs.declared.field.Mark.{Mark}
use Rattle.tbl_reader.specs.declared.field.Mark.TheVariants as marks
use Rattle.tbl_reader.specs.declared.formats.Call.{Call}
use Rattle.tbl_reader.specs.declared.formats.Call.TheVariants as calls
use Rattle.tbl_reader.specs.declared.formats.Called.{Called}
use Rattle.tbl_reader.specs.declared.options.Options.{Options}
use Rattle.tbl_reader.specs.declared.telling.Tell.{Tell}
use Rattle.tbl_reader.specs.declared.telling.Tell.TheVariants as tells
use Rattle.tbl_table.specs.declared.table.Form.{Form}
use Rattle.tbl_table.specs.declared.table.Form.TheVariants as forms
use Rattle.tbl_table.specs.declared.table.Looks.{Looks}
use Rattle.tbl_table.specs.declared.table.Stand.TheVariants as stands
use Rattle.tbl_table.specs.declared.table.Table.{Table}
use Rattle.tbl_table.specs.Formats.{byte_added, closed, equal_set, font_set, gap_begun, key_added, line_begun, line_ended, stand_set, text_added, wide_set, width_begun, zero_set}
use Rattle.tbl_table.specs.Rows.{mark_added, request_ended, row_ended, rule_added, text_begun}

-- ---- options and marks

abbrev pub looks_of : Options → Looks
looks_of o = record { center = o.center; expand = o.expand; frame = o.frame; nokeep = o.nokeep; nofit = o.nofit }

abbrev pub form_of : Mark → Form
form_of marks.Nothing = forms.Text
form_of marks.Rule = forms.Rule
form_of marks.Inner = forms.Inner
form_of (marks.Repeat b) = forms.Repeat b
form_of marks.Above = forms.Above

-- ---- formats

abbrev pub call_heard : Call → Table → Table
call_heard calls.Nothing t = t
call_heard (calls.Cell kind bars) t = key_added kind bars t
call_heard (calls.Bars bars) t = line_ended bars t
call_heard (calls.Font font) t = font_set font t
call_heard calls.Width t = width_begun t
call_heard (calls.Gap digit) t = gap_begun digit t
call_heard (calls.Byte b) t = byte_added b t
call_heard calls.Equal t = equal_set t
call_heard calls.Wide t = wide_set t
call_heard calls.Zero t = zero_set t
call_heard calls.Top t = stand_set stands.Top t
call_heard calls.Low t = stand_set stands.Low t

abbrev pub closed_if : Bool → Table → Table
closed_if ends t = if ends then closed t else t

abbrev pub line_begun_if : Bool → Table → Table
line_begun_if begins t = if begins then line_begun t else t

-- what has ended before a byte, and what it says
abbrev pub called_heard : Called → Table → Table
called_heard c t = call_heard c.call (line_begun_if c.begins (closed_if c.ends t))

-- ---- rows, rules and requests

abbrev pub texts_held : List ℕ → Table → Table
texts_held [] t = t
texts_held (b ∷ bs) t = texts_held bs (text_added b t)

abbrev pub request_heard : List ℕ → Table → Table
request_heard text t = request_ended (texts_held text (text_begun t))

abbrev pub line_heard : Tell → List ℕ → Table → Table
line_heard tells.Row text t = row_ended t
line_heard tells.Rule text t = rule_added t
line_heard tell text t = request_heard text t

-- so many empty fields
abbrev pub empty_added : ℕ → Table → Table
empty_added zero t = t
empty_added (suc n) t = mark_added forms.Text (empty_added n t)
