-- What lines outside of tables say of those that follow (man(7); CSTR 54, `.ad`, `.ll`, `.ds`, `.nr`): that the page is a manual page, whether
-- full lines are spread, how long lines are and what they are indented, and which strings and registers are defined in plain text. Of a line
-- of a request 128 bytes are heard, and one of text says nothing.
use Rattle.std.specs.Prelude.{ℕ, ◌+◌, ◌-◌, Bool, true, false, not, ◌==◌, ◌&&◌, ◌||◌, nat_lt, min, List, [], ◌∷◌, ◌++◌, length, take, drop, Option, None, Some, codes, if◌then◌else◌}
use Prim.Native.Char.{code}
use Rattle.nr_vectors.specs.Items.{Items}
use Rattle.tbl_blocks.specs.declared.parts.Known.{Known}
use Rattle.tbl_blocks.specs.Extents.{extent_of}
use Rattle.tbl_blocks.specs.Words.{name_of, request_in}
use Rattle.tbl_columns.specs.declared.grid.Grid.{Grid}
use Rattle.tbl_columns.specs.declared.grid.Room.{Room}
use Rattle.tbl_columns.specs.Registers.{list_eq, register_set}
use Rattle.tbl_setting.specs.declared.requests.Request.{Request}
use Rattle.tbl_setting.specs.declared.requests.Request.TheVariants as requests
use Rattle.tbl_setting.specs.declared.watching.Around.{Around}
use Rattle.tbl_setting.specs.declared.watching.Watch.{Watch}
use Rattle.tbl_setting.specs.Arguments.{accepted, after_arguments, after_blanks, argument, argument_len, definition_at, first_argument, number_of}
use Rattle.tbl_setting.specs.Conditions.{held_after, is_left_out}
use Rattle.nr_units.specs.declared.units.Scale.TheVariants.{Unit}
use Rattle.tbl_setting.specs.Lengths.{cells_said, length_in}
use Rattle.tbl_setting.specs.Margins as margins
use Rattle.tbl_setting.specs.Margins.{first_margins, no_margins, or_number}
use Rattle.tbl_setting.specs.Papers.{no_paper, paper_obeyed, said_or_part, with_paper}
use Rattle.tbl_setting.specs.Requests.{request_of}
use Rattle.tbl_table.specs.Held.{none_of}
use Rattle.tbl_table.specs.Lists.{added, put}
use Rattle.tbl_table.specs.Sums.{sum}
use Rattle.tbl_table.specs.Table.{room_for}

-- ---- before all, and where a page begins: a line has so many cells

abbrev pub first_watch : ℕ → Watch
first_watch cells = record {
  line = room_for 128;
  around = record {
    manual = false;
    within = false;
    spreads = true;
    cells = cells;
    last_cells = cells;
    copies = false;
    held = false;
    margins = first_margins;
    paper = no_paper;
  };
}

-- the elements of its lists
abbrev pub memory : ℕ
memory = 128 + 16

abbrev pub nothing_known : ℕ → Around → Around
nothing_known cells a = record {
  manual = false;
  within = false;
  spreads = true;
  cells = cells;
  last_cells = cells;
  copies = false;
  held = false;
  margins = no_margins a.margins;
  paper = no_paper;
}

abbrev pub begun : ℕ → Watch → Watch
begun cells w = record { line = none_of w.line; around = nothing_known cells w.around }

-- ---- the line in which tables stand that follow: a manual page indents what stands in its sections by 7, and its tables are narrowed; a
-- paper what stands in parts and quotes

abbrev pub indent : Around → ℕ
indent a =
    if not a.manual then sum (margins.parts a.margins) a.paper.left else
    if a.within then sum (margins.margin a.margins) 7 else 0

abbrev pub room_of : Bool → Around → Room
room_of fits a = record { line = a.cells - a.paper.right; indent = indent a; fits = fits && a.manual }

-- ---- requests

-- `.ll` without a number goes back to the length before
abbrev pub length_set : List ℕ → Around → Around
length_set text a = record a { cells = or_number (cells_said text a.cells) a.last_cells; last_cells = a.cells }

-- `.nr LL`, by which a paper says how long its lines are; what a quote takes, and what a part does
abbrev pub register_said : List ℕ → Option ℕ → Around → Around
register_said name said a =
    if list_eq name (codes "LL") then record a { cells = or_number said a.cells } else
    if list_eq name (codes "QI") || list_eq name (codes "qi") then with_paper (record a.paper { quote = said }) a else
    if list_eq name (codes "PI") then with_paper (record a.paper { part = or_number said a.paper.part }) a else a

abbrev pub paper_set : List ℕ → List ℕ → Around → Around
paper_set name text a = register_said name (length_in text Unit) a

abbrev pub section_begun : Around → Around
section_begun a = record a { within = true; margins = no_margins a.margins }

abbrev pub is_ragged : List ℕ → Bool
is_ragged [] = false
is_ragged (b ∷ bs) = (b == code "l") || ((b == code "c") || (b == code "r"))

abbrev pub adjusted : List ℕ → Around → Around
adjusted text a = record a { spreads = not (is_ragged text) }

abbrev pub tagged : Option ℕ → Around → Around
tagged said a = record a { margins = margins.with_tag (said_or_part said a) a.margins }

abbrev pub deeper : Option ℕ → Around → Around
deeper said a = record a { margins = margins.deeper (said_or_part said a) a.margins }

abbrev pub obeyed : Request → List ℕ → Around → Around
obeyed requests.Title text a = record a { manual = true }
obeyed requests.Section text a = section_begun a
obeyed requests.Paragraph text a = record a { margins = margins.without_tag a.margins }
obeyed requests.Item text a = tagged (number_of (argument text 1)) a
obeyed requests.Tagged text a = record a { margins = margins.with_tag (number_of (argument text 0)) a.margins }
obeyed requests.Deeper text a = deeper (number_of (argument text 0)) a
obeyed requests.Back text a = record a { margins = margins.back a.margins }
obeyed requests.Indent text a = record a { margins = margins.moved (argument text 0) a.margins }
obeyed requests.Ragged text a = record a { spreads = false }
obeyed requests.Adjust text a = adjusted (argument text 0) a
obeyed requests.Length text a = length_set (argument text 0) a
obeyed requests.Copy text a = record a { copies = true }
obeyed (requests.Paper name) text a = if a.manual then a else paper_obeyed name text a
obeyed requests.Register text a = a
obeyed requests.Other text a = a

-- ---- strings: a quote before the text is none of it. One whose text takes as many cells as it shows is known, and one that is defined anew

abbrev pub after_quote : List ℕ → List ℕ
after_quote [] = []
after_quote (b ∷ bs) = if b == code "\"" then bs else b ∷ bs

abbrev pub string_of : List ℕ → ℕ → List ℕ
string_of text name = after_quote (drop (name + 1) text)

abbrev pub number_from : ℕ → List ℕ → List Known → Option ℕ
number_from n name [] = None
number_from n name (s ∷ ss) = if list_eq s.name name then Some n else number_from (n + 1) name ss

abbrev pub string_number : List ℕ → List Known → Option ℕ
string_number name strings = number_from 0 name strings

abbrev pub known_of : List ℕ → List ℕ → Grid → Known
known_of name text g = record { name = name; cells = (extent_of text g.blocks.strings.items).cells }

abbrev pub with_strings : Items Known → Grid → Grid
with_strings strings g = record g { blocks = record g.blocks { strings = strings } }

abbrev pub string_set : Option ℕ → Known → Bool → Grid → Grid
string_set (Some n) k sure g = with_strings (put n k g.blocks.strings) g
string_set None k sure g = if sure then with_strings (added k g.blocks.strings) g else g

-- a name has 32 bytes at most
abbrev pub string_defined : List ℕ → List ℕ → Grid → Grid
string_defined name text g =
    if (length name == 0) || nat_lt 32 (length name) then g
    else string_set (string_number name g.blocks.strings.items) (known_of name text g)
    (extent_of text g.blocks.strings.items).sure g

abbrev pub string_heard : List ℕ → Grid → Grid
string_heard text g = string_defined (first_argument text) (string_of text (argument_len text)) g

-- ---- a line: what it changes of what is known of the page, and of the table's strings and registers

pub record Hearing : Type 0 where
  pub around : Around
  pub grid : Grid

abbrev pub hearing : Around → Grid → Hearing
hearing a g = record { around = a; grid = g }

abbrev pub register_heard : List ℕ → Hearing → Hearing
register_heard text h = hearing (paper_set (argument text 0) (argument text 1) h.around)
    (register_set (argument text 0) (after_arguments text 1) (record h.grid { room = room_of false h.around }))

abbrev pub obeyed_by : Request → List ℕ → Hearing → Hearing
obeyed_by requests.Register text h = register_heard text h
obeyed_by request text h = hearing (obeyed request text h.around) h.grid

abbrev pub request_heard : List ℕ → Hearing → Hearing
request_heard text h = obeyed_by (request_of (name_of text)) text h

abbrev pub definition_heard : Option ℕ → List ℕ → Hearing → Hearing
definition_heard (Some place) line h = hearing h.around (string_heard (after_blanks (drop place line)) h.grid)
definition_heard None line h = request_heard (accepted (request_in line)) h

abbrev pub done_heard : List ℕ → Hearing → Hearing
done_heard line h = definition_heard (definition_at line) line h

abbrev pub with_held : Bool → Hearing → Hearing
with_held held h = hearing (record h.around { held = held }) h.grid

-- a line whose request is not done changes nothing
abbrev pub control_heard : List ℕ → Hearing → Hearing
control_heard line h =
    let next : Hearing = with_held (held_after (request_in line) h.around.held) h in
    if is_left_out (request_in line) h.around.held then next else done_heard line next

abbrev pub is_control : ℕ → Bool
is_control b = (b == code ".") || (b == code "'")

abbrev pub begins_control : List ℕ → Bool
begins_control [] = false
begins_control (b ∷ bs) = is_control b

-- `..` ends lines that are copied
abbrev pub ends_copy : List ℕ → Bool
ends_copy (a ∷ b ∷ bs) = (a == code ".") && (b == code ".")
ends_copy line = false

abbrev pub line_heard : List ℕ → Hearing → Hearing
line_heard line h =
    if h.around.copies then hearing (record h.around { copies = not (ends_copy line) }) h.grid else
    if begins_control line then control_heard line h else h

-- ---- bytes that pass

pub record Watching : Type 0 where
  pub watch : Watch
  pub grid : Grid

abbrev pub watching : Watch → Grid → Watching
watching w g = record { watch = w; grid = g }

abbrev pub after_line : Watch → Hearing → Watching
after_line w h = watching (record { line = none_of w.line; around = h.around }) h.grid

abbrev pub line_ended : Watching → Watching
line_ended s = after_line s.watch (line_heard s.watch.line.items (hearing s.watch.around s.grid))

abbrev pub is_text : List ℕ → Bool
is_text [] = false
is_text (b ∷ bs) = not (is_control b)

abbrev pub byte_heard : ℕ → Watching → Watching
byte_heard b s =
    if b == code "\n" then line_ended s else
    if is_text s.watch.line.items then s else watching (record s.watch { line = added b s.watch.line }) s.grid

-- how many bytes belong to a line of text that is under way
abbrev pub line_len : List ℕ → ℕ
line_len [] = 0
line_len (b ∷ bs) = if b == code "\n" then 0 else line_len bs + 1

abbrev pub text_len : List ℕ → Watch → ℕ
text_len text w = if is_text w.line.items then line_len text else 0

-- how many belong to a line of a request that is under way, of which as many are held as have room
abbrev pub request_len : List ℕ → Watch → ℕ
request_len text w = if begins_control w.line.items then line_len text else 0

abbrev pub filled : ℕ → List ℕ → Items ℕ → Items ℕ
filled n text xs = record xs { items = xs.items ++ take (min n (xs.capacity - length xs.items)) text }

abbrev pub held : ℕ → List ℕ → Watch → Watch
held n text w = record w { line = filled n text w.line }

abbrev pub heard : List ℕ → Watching → Watching
heard [] s = s
heard (b ∷ bs) s = heard bs (byte_heard b s)
