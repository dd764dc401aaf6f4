-- A table as it is held: its text, its lines of formats with their letters, and its rows with their fields. Lists are read by number; what
-- lies beyond them is empty.
use Rattle.std.specs.Prelude.{ℕ, ◌-◌, ◌*◌, Bool, true, false, ◌==◌, ◌&&◌, not, nat_le, nat_lt, List, [], length, take, drop, get_or, None, Some, min, if◌then◌else◌, ◌||◌, suc, zero, ◌+◌}
use Rattle.tbl_table.specs.declared.table.Field.{Field}
use Rattle.tbl_table.specs.declared.table.Form.{Form}
use Rattle.tbl_table.specs.declared.table.Form.TheVariants as forms
use Rattle.tbl_table.specs.declared.table.Frame.{Frame}
use Rattle.tbl_table.specs.declared.table.Frame.TheVariants as frames
use Rattle.tbl_table.specs.declared.table.Item.{Item}
use Rattle.tbl_table.specs.declared.table.Item.TheVariants as items
use Rattle.tbl_table.specs.declared.table.Key.{Key}
use Rattle.tbl_table.specs.declared.table.Kind.{Kind}
use Rattle.tbl_table.specs.declared.table.Kind.TheVariants as kinds
use Rattle.tbl_table.specs.declared.table.Line.{Line}
use Rattle.tbl_table.specs.declared.table.Looks.{Looks}
use Rattle.tbl_table.specs.declared.table.Open.TheVariants as opens
use Rattle.tbl_table.specs.declared.table.Row.{Row}
use Rattle.tbl_table.specs.declared.table.Span.{Span}
use Rattle.tbl_table.specs.declared.table.Stand.TheVariants as stands
use Rattle.tbl_table.specs.declared.table.Table.{Table}
use Rattle.tbl_table.specs.Sums.{sum}
use Rattle.nr_vectors.specs.Items.{Items}

-- ---- letters

abbrev pub is_number : Kind → Bool
is_number kinds.Number = true
is_number kind = false

-- those of rules, _ and =
abbrev pub is_ruling : Kind → Bool
is_ruling kinds.Rule = true
is_ruling kinds.DoubleRule = true
is_ruling kind = false

-- ---- what stands for what is not there

abbrev pub usual : Key
usual =
    record {
      kind = kinds.Left;
      bars = 0;
      font = None;
      width = None;
      gap = None;
      equal = false;
      wide = false;
      zero = false;
      stand = stands.Middle;
    }

abbrev pub no_line : Line
no_line = record { first = 0; count = 0; bars = 0 }

abbrev pub no_span : Span
no_span = record { start = 0; «end» = 0 }

abbrev pub no_field : Field
no_field = record { form = forms.Text; span = no_span; prefix = None }

abbrev pub no_row : Row
no_row =
    record {
      first = 0;
      «end» = 0;
      line = 0;
      item = 0;
    }

-- ---- by number

abbrev pub line : Table → ℕ → Line
line t n = get_or t.lines.items n no_line

abbrev pub row : Table → ℕ → Row
row t n = get_or t.rows.items n no_row

abbrev pub field : Table → ℕ → Field
field t n = get_or t.fields.items n no_field

-- the letter of a column in a line of formats; the bars before it, or at the line's end
abbrev pub key : Table → Line → ℕ → Key
key t l c = if nat_le l.count c then usual else get_or t.keys.items (sum l.first c) usual

abbrev pub bars_in : Table → Line → ℕ → ℕ
bars_in t l c = if c == l.count then l.bars else (key t l c).bars

-- ---- text

abbrev pub part : List ℕ → Span → List ℕ
part text s =
    if nat_le s.start s.«end» && nat_le s.«end» (length text)
    then take (s.«end» - s.start) (drop s.start text) else []

abbrev pub text_of : Table → Span → List ℕ
text_of t s = part t.text.items s

abbrev pub is_text : Form → Bool
is_text forms.Text = true
is_text form = false

abbrev pub is_rule : Form → Bool
is_rule forms.Rule = true
is_rule form = false

abbrev pub is_block : Form → Bool
is_block forms.Block = true
is_block form = false

abbrev pub has_text : Field → Bool
has_text f = is_text f.form && nat_lt f.span.start f.span.«end»

abbrev pub prints : Field → Bool
prints f = has_text f || is_block f.form

-- so many fields from one on
abbrev pub some_print : ℕ → Table → ℕ → Bool
some_print zero t n = false
some_print (suc k) t n = prints (field t n) || some_print k t (n + 1)

-- ---- frames

abbrev pub is_open : Frame → Bool
is_open frames.Open = true
is_open frame = false

abbrev pub is_all : Frame → Bool
is_all frames.All = true
is_all frame = false

abbrev pub is_double : Frame → Bool
is_double frames.Double = true
is_double frame = false

abbrev pub is_boxed : Table → Bool
is_boxed t = not (is_open t.looks.frame)

-- ---- a table that holds nothing, in the same room

abbrev pub plain : Looks
plain = record { center = false; expand = false; frame = frames.Open; nokeep = false; nofit = false }

abbrev pub none_of : {A : Type 0} → Items A → Items A
none_of i = record { items = []; capacity = i.capacity }

abbrev pub emptied : Table → Table
emptied t = record {
  looks = plain;
  signs = t.signs;
  text = none_of t.text;
  keys = none_of t.keys;
  lines = none_of t.lines;
  fields = none_of t.fields;
  rows = none_of t.rows;
  items = none_of t.items;
  «open» = opens.Nothing;
  next_line = 0;
  row_from = 0;
  from = 0;
  rows_from = 0;
  most_text = t.most_text;
}

-- what stands at a place below one another
abbrev pub item : Table → ℕ → Item
item t n = get_or t.items.items n items.Rule
