-- Where lines of East Asian text, which has no blanks, may be cut (nroff(7), Filling): by two special
-- characters that print nothing. What is read is text in the language of nroff, as preconv writes it.
use Prim.Native.Char.{code}
use Rattle.std.specs.Prelude.{ℕ, ◌%◌, List, [], ◌∷◌, ◌++◌, Bool, true, false, not, ◌==◌, ◌&&◌, ◌||◌, nat_le, nat_lt, if◌then◌else◌}
use Rattle.std.specs.Prelude.{codes}
use Rattle.utf8_own_characters.specs.declared.cluster.Cluster.{Cluster}
use Rattle.utf8_own_characters.specs.Breaking.{is_east_asian, may_break}
use Rattle.utf8_own_characters.specs.Cluster.{is_ascii}
use Rattle.utf8_own_stage.specs.declared.points.Line.{Line}
use Rattle.utf8_own_stage.specs.declared.points.Line.TheVariants as lines
use Rattle.utf8_own_stage.specs.declared.points.Escape.{Escape}
use Rattle.utf8_own_stage.specs.declared.points.Escape.TheVariants as escapes
use Rattle.utf8_own_stage.specs.declared.points.TablePlace.{TablePlace}
use Rattle.utf8_own_stage.specs.declared.points.TablePlace.TheVariants as tables
use Rattle.utf8_own_stage.specs.declared.points.Place.{Place}
use Rattle.utf8_own_stage.specs.declared.points.Point.{Point}
use Rattle.utf8_own_stage.specs.declared.points.Point.TheVariants.{Nothing, Cut, Waited, Joint}
use Rattle.utf8_own_stage.specs.declared.points.Waiting.{Waiting}
use Rattle.utf8_own_stage.specs.declared.points.Waiting.TheVariants as waiting

abbrev pub none : ℕ
none = 0

abbrev pub newline : ℕ
newline = 10

abbrev pub first_place : Place
first_place = record { line = lines.Start; escape = escapes.Plain; table = tables.Nowhere; before = none; waits = waiting.Nothing }

-- What the language reads of a cluster: its letter. A letter of ASCII with marks is none of its own characters.
abbrev pub read_as : Cluster → ℕ
read_as c = if nat_lt c.letter 128 && not (is_ascii c) then code "_" else c.letter

-- ---- what waits after an East Asian character for another: a newline, and a font with which the next line begins

abbrev pub is_waiting : Waiting → Bool
is_waiting waiting.Nothing = false
is_waiting w = true

abbrev pub waiting_text : Waiting → List ℕ
waiting_text waiting.Nothing = []
waiting_text waiting.Newline = newline ∷ []
waiting_text waiting.Escape = newline ∷ code "\\" ∷ []
waiting_text waiting.Name = newline ∷ code "\\" ∷ code "f" ∷ []
waiting_text (waiting.Font name) = newline ∷ code "\\" ∷ code "f" ∷ name % 128 ∷ []

abbrev pub is_font : ℕ → Bool
is_font c = (c == code "B") || (c == code "I") || (c == code "P") || (c == code "R")

-- with one character more, where that goes on a font
abbrev pub waiting_with : Waiting → ℕ → Waiting
waiting_with waiting.Newline c = if c == code "\\" then waiting.Escape else waiting.Nothing
waiting_with waiting.Escape c = if c == code "f" then waiting.Name else waiting.Nothing
waiting_with waiting.Name c = if is_font c then waiting.Font c else waiting.Nothing
waiting_with w c = waiting.Nothing

-- the newline is no blank; with a font after it, before characters from U+2E80 on
abbrev pub joins : Waiting → ℕ → Bool
joins waiting.Newline c = is_east_asian c
joins (waiting.Font name) c = nat_le 0x2E80 c && is_east_asian c
joins w c = false

-- ---- what goes out before a character

abbrev pub is_plain : Escape → Bool
is_plain escapes.Plain = true
is_plain escape = false

abbrev pub is_format : TablePlace → Bool
is_format tables.Format = true
is_format table = false

abbrev pub is_rows : TablePlace → Bool
is_rows tables.Rows = true
is_rows table = false

abbrev pub is_text : Line → Bool
is_text lines.Text = true
is_text line = false

-- what is read is printed
abbrev pub is_open : Place → Bool
is_open p = is_plain p.escape && not (is_format p.table)

-- a line may be cut where JIS X 4051 has it so, but not before an escape
abbrev pub may_cut : Place → ℕ → Bool
may_cut p c = not (c == code "\\") && is_open p && may_break p.before c

-- what waits goes out before what does not go it on
abbrev pub point_waiting : Waiting → ℕ → Point
point_waiting w c = if is_waiting (waiting_with w c) then Nothing else if joins w c then Joint else Waited

abbrev pub point : Place → ℕ → Point
point p c = if is_waiting p.waits then point_waiting p.waits c else if may_cut p c then Cut else Nothing

abbrev pub text_of : Waiting → Point → List ℕ
text_of w Nothing = []
text_of w Cut = codes "\\(zb"
text_of w Waited = waiting_text w
text_of w Joint = codes "\\(zj" ++ waiting_text w

-- a newline waits for the next character; but in a row of a table a line ends its fields
abbrev pub may_join : Place → Bool
may_join p = is_text p.line && is_open p && not (is_rows p.table) && is_east_asian p.before

-- where nothing comes
abbrev pub left : Place → List ℕ
left p = waiting_text p.waits

-- ---- the place after a character

-- in a table the format ends with a dot, and before a block a row with a brace
abbrev pub table_after : TablePlace → ℕ → TablePlace
table_after tables.Format before = if before == code "." then tables.Rows else tables.Format
table_after tables.Rows before = if before == code "{" then tables.Block else tables.Rows
table_after table before = table

abbrev pub line_ended : Place → Place
line_ended p = record {
  line = lines.Start;
  escape = escapes.Plain;
  table = table_after p.table p.before;
  before = none;
  waits = if may_join p then waiting.Newline else waiting.Nothing;
}

-- a block ends with a line that begins with `T`
abbrev pub table_begun : TablePlace → ℕ → TablePlace
table_begun tables.Block c = if c == code "T" then tables.Rows else tables.Block
table_begun table c = table

abbrev pub is_control : ℕ → Bool
is_control c = (c == code ".") || (c == code "'")

abbrev pub begun : ℕ → Place → Place
begun c p = record p {
  line = if is_control c then lines.Control else lines.Text;
  table = table_begun p.table c;
  before = if is_control c then p.before else c;
}

abbrev pub is_blank : ℕ → Bool
is_blank c = (c == code " ") || (c == code "\t")

-- the name of a control line ends at a blank
abbrev pub named_by : Line → ℕ → Line
named_by lines.Control c = if c == code "T" then lines.Tee else lines.Name
named_by line c = lines.Name

abbrev pub naming : ℕ → Place → Place
naming c p = record p { line = if is_blank c then lines.Rest else named_by p.line c }

-- `.TS` and `.T&` begin a format, and `.TE` ends a table
abbrev pub naming_table : ℕ → Place → Place
naming_table c p = naming c (record p {
  table =
      if (c == code "S") || (c == code "&") then tables.Format else
      if c == code "E" then tables.Nowhere else p.table;
})

abbrev pub line_of_escape : Line → Line
line_of_escape lines.Start = lines.Text
line_of_escape line = line

abbrev pub character_by : Line → ℕ → Place → Place
character_by lines.Start c p = begun c p
character_by lines.Control c p = naming c p
character_by lines.Tee c p = naming_table c p
character_by lines.Name c p = naming c p
character_by lines.Rest c p = record p { before = c }
character_by lines.Text c p = record p { before = c }

abbrev pub going_on : ℕ → Place → Place
going_on c p =
    if c == code "\\" then record p { escape = escapes.Begun; line = line_of_escape p.line } else character_by p.line c p

-- a name has one character, or two after a bracket
abbrev pub escape_by : ℕ → Escape
escape_by c =
    if (c == code "f") || (c == code "*") || (c == code "n") then escapes.Named else
    if c == code "(" then escapes.Left 2 else escapes.Plain

-- a font leaves what is printed before it
abbrev pub escaping : ℕ → Place → Place
escaping c p = record p { escape = escape_by c; before = if c == code "f" then p.before else none }

abbrev pub spelled_by : Escape → ℕ → Escape
spelled_by escapes.Named c = if c == code "(" then escapes.Left 2 else escapes.Plain
spelled_by (escapes.Left n) c = if n == 2 then escapes.Left 1 else escapes.Plain
spelled_by escape c = escapes.Plain

abbrev pub spelling : ℕ → Place → Place
spelling c p = record p { escape = spelled_by p.escape c }

abbrev pub passed_by : Escape → ℕ → Place → Place
passed_by escapes.Begun c p = escaping c p
passed_by escapes.Plain c p = if c == newline then line_ended p else going_on c p
passed_by escape c p = if c == newline then line_ended p else spelling c p

abbrev pub passed : Place → ℕ → Place
passed p c = passed_by p.escape c (record p { waits = waiting_with p.waits c })
