-- What is known of a page between two bytes.
use Rattle.std.specs.Prelude.{ℕ, Bool, true, false, ◌==◌, nat_le, if◌then◌else◌, Option, None, Some}
use Prim.Native.Char.{code}
use Rattle.tbl_reader.specs.declared.command.Start.TheVariants.{Nothing}
use Rattle.tbl_reader.specs.declared.complaint.Kind.{Kind}
use Rattle.tbl_reader.specs.declared.complaint.Kind.TheVariants.{NoFormat, BadFormat, TooManyColumns}
use Rattle.tbl_reader.specs.declared.formats.Formats.{Formats}
use Rattle.tbl_reader.specs.declared.state.Mode.TheVariants as modes
use Rattle.tbl_reader.specs.declared.state.State.{State}
use Rattle.tbl_reader.specs.Formats.{first_formats}
use Rattle.tbl_reader.specs.Numbers.{one_more}
use Rattle.tbl_reader.specs.Options.{no_options}

-- a page begins
abbrev pub first_state : State
first_state = record {
  mode = modes.Passing Nothing;
  line = 1;
  first = false;
  options = no_options;
  formats = first_formats 0 0 false;
  fields = 0;
  begun = 0;
  block = 0;
}

-- this line begins a table
abbrev pub table_begun : State → State
table_begun s = record s {
  mode = modes.Head;
  first = true;
  options = no_options;
  formats = first_formats 0 0 false;
  fields = 0;
  begun = s.line;
}

-- new formats begin with the next line
abbrev pub formats_begun : State → State
formats_begun s = record s {
  mode = modes.Head;
  first = false;
  formats = first_formats s.formats.columns s.formats.lines s.formats.numeric;
}

-- a row does
abbrev pub row_begun : State → State
row_begun s = record s { mode = modes.Rows; fields = 0 }

-- a text block begins on this line
abbrev pub block_opened : State → State
block_opened s = record s { mode = modes.Block; block = s.line }

-- one field more has ended
abbrev pub field_counted : State → State
field_counted s = record s { fields = one_more s.fields 65 }

-- the next field is one more than there are columns
abbrev pub is_beyond : State → Bool
is_beyond s = nat_le s.formats.columns s.fields

-- ---- formats that were read

-- a byte that is wrong, or no letter before the point
abbrev pub wrong_kind : Option ℕ → Bool → Option Kind
wrong_kind (Some b) none = Some (BadFormat b)
wrong_kind None none = if none then Some (BadFormat (code ".")) else None

-- what is wrong with them, after so many lines of formats
abbrev pub wrong_with : Formats → ℕ → Option Kind
wrong_with f before =
    if f.columns == 0 then Some NoFormat else
    if f.many then Some TooManyColumns else wrong_kind f.bad (f.lines == before)
