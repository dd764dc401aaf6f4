-- Where a block is read (CSTR 54 4.1, filling, adjusting; tbl(1), TEXT BLOCKS): what stands before the next part, its font, the word under way, and
-- what requests change of these.
use Rattle.std.specs.Prelude.{ℕ, ◌-◌, ◌%◌, min, Bool, true, false, not, ◌==◌, ◌&&◌, ◌||◌, nat_lt, List, [], ◌∷◌, Option, None, Some, if◌then◌else◌}
use Prim.Native.Char.{code}
use Rattle.tbl_blocks.specs.declared.parts.Font.{Font}
use Rattle.tbl_blocks.specs.declared.parts.Font.TheVariants as fonts
use Rattle.tbl_blocks.specs.declared.parts.Join.{Join}
use Rattle.tbl_blocks.specs.declared.parts.Join.TheVariants as joins
use Rattle.tbl_blocks.specs.declared.parts.Part.{Part}
use Rattle.tbl_blocks.specs.declared.parts.Seen.{Seen}
use Rattle.tbl_blocks.specs.declared.reading.Face.{Face}
use Rattle.tbl_blocks.specs.declared.reading.Last.{Last}
use Rattle.tbl_blocks.specs.declared.reading.Last.TheVariants as lasts
use Rattle.tbl_blocks.specs.declared.reading.Manner.{Manner}
use Rattle.tbl_blocks.specs.declared.reading.Reading.{Reading}
use Rattle.tbl_blocks.specs.declared.reading.Word.{Word}
use Rattle.tbl_blocks.specs.declared.requests.Request.{Request}
use Rattle.tbl_blocks.specs.declared.requests.Request.TheVariants as requests
use Rattle.tbl_blocks.specs.declared.units.Does.{Does}
use Rattle.tbl_blocks.specs.declared.units.Does.TheVariants as does
use Rattle.tbl_blocks.specs.declared.units.Unit.{Unit}
use Rattle.tbl_blocks.specs.Arguments.{number_or}
use Rattle.tbl_blocks.specs.Parts.{font_of, no_part, sum}
use Rattle.tbl_blocks.specs.Units.{is_plain, is_stop, is_sure}
use Rattle.tbl_blocks.specs.Units.{is_letter as is_letter_byte}

-- ---- fonts

abbrev pub face_of : Font → Face
face_of f = record { font = f; last = f }

abbrev pub set_face : Font → Face → Face
set_face f was = record { font = f; last = was.font }

abbrev pub face_back : Face → Face
face_back was = record { font = was.last; last = was.font }

-- ---- a word

abbrev pub word_at : ℕ → Word
word_at place = record { from = place; cells = 0; begun = false; last = lasts.Other; more = 0 }

abbrev pub is_letter : Does → Bool
is_letter does.Letter = true
is_letter what = false

-- it may be cut between letters after a hyphen, and after a dash
abbrev pub cut_after : Last → Unit → Bool
cut_after lasts.Hyphen u = is_letter u.does
cut_after lasts.Dash u = nat_lt 0 u.cells
cut_after last u = false

abbrev pub is_cut_before : Unit → Word → Bool
is_cut_before u w = cut_after w.last u

abbrev pub hyphen_after : Last → Last
hyphen_after lasts.Letter = lasts.Hyphen
hyphen_after last = lasts.Other

abbrev pub last_after : Does → Last → Last
last_after does.Letter last = lasts.Letter
last_after does.Hyphen last = hyphen_after last
last_after does.Dash last = lasts.Dash
last_after does.Nothing last = last
last_after what last = lasts.Other

abbrev pub word_printed : Unit → Word → Word
word_printed u w = record w {
  cells = sum w.cells u.cells;
  begun = w.begun || nat_lt 0 u.cells;
  last = last_after u.does w.last;
}

-- ---- what stands before the next part

abbrev pub blank_as : Bool → ℕ → Join
blank_as fills n = if fills then joins.Gap n else joins.Fixed n

-- one blank more; at a line's beginning they are none
abbrev pub with_blank : Bool → Join → Join
with_blank fills (joins.Line space indent) = joins.Line space indent
with_blank fills (joins.Gap n) = blank_as fills (sum n 1)
with_blank fills (joins.Fixed n) = blank_as fills (sum n 1)
with_blank fills join = blank_as fills 1

abbrev pub nothing_seen : Bool → Seen
nothing_seen spread = record { spread = spread; sure = true; defines = false }

abbrev pub reading_of : Font → Bool → Reading
reading_of f spread = record {
  face = face_of f;
  once = None;
  tag = None;
  address = None;
  join = joins.Line 0 0;
  margins = record { indent = 0; margin = 0; by = 7 };
  fills = true;
  ends = false;
  begun = false;
  word = word_at 0;
  seen = nothing_seen spread;
}

-- ---- parts

abbrev pub part_to : ℕ → Reading → Part
part_to place r = record {
  start = r.word.from;
  «end» = place;
  cells = r.word.cells;
  font = r.face.font;
  join = r.join;
  indent = r.margins.indent;
  bracketed = false;
}

abbrev pub after_part : ℕ → Reading → Reading
after_part place r =
    record r { join = joins.Glued; begun = true; word = record r.word { from = place; cells = 0 } }

-- ---- units

abbrev pub ends_part : Does → Bool → Bool
ends_part does.Blank cut = true
ends_part (does.Font f) cut = true
ends_part does.Back cut = true
ends_part does.Comment cut = true
ends_part does.Point cut = true
ends_part does.Cut cut = true
ends_part what cut = cut

abbrev pub parts_before : Unit → Reading → Bool
parts_before u r = ends_part u.does (r.fills && is_cut_before u r.word)

abbrev pub from_here : ℕ → Face → Join → Reading → Reading
from_here next face join r = record r { face = face; join = join; word = record r.word { from = next } }

abbrev pub cut_join : Join → Reading → Join
cut_join join r = if r.word.begun && r.fills then join else r.join

-- a sentence ends with what is printed last
abbrev pub ends_by : Does → Bool → Bool
ends_by does.Stop was = true
ends_by does.Nothing was = was
ends_by what was = false

abbrev pub ends_after : Does → Reading → Bool
ends_after what r = ends_by what r.ends

abbrev pub printed : Unit → Reading → Reading
printed u r = record r {
  join = if r.fills && is_cut_before u r.word then joins.Cut else r.join;
  ends = ends_after u.does r;
  word = word_printed u r.word;
  seen = record r.seen { sure = r.seen.sure && is_sure u.does };
}

abbrev pub read_as : Does → Unit → ℕ → Reading → Reading
read_as does.Blank u next r = record r { join = with_blank r.fills r.join; word = word_at next }
read_as (does.Font f) u next r = from_here next (set_face f r.face) r.join r
read_as does.Back u next r = from_here next (face_back r.face) r.join r
read_as does.Point u next r = from_here next r.face (cut_join joins.Point r) r
read_as does.Cut u next r = from_here next r.face (cut_join joins.Cut r) r
read_as does.Comment u next r = from_here next r.face r.join r
read_as what u next r = printed u r

abbrev pub unit_read : Unit → ℕ → Reading → Reading
unit_read u next r = read_as u.does u next r

abbrev pub with_more : ℕ → Reading → Reading
with_more n r = record r { word = record r.word { more = n } }

-- a plain byte after one that cuts no word: no part ends before it
abbrev pub cuts_none : Last → Bool
cuts_none lasts.Letter = true
cuts_none lasts.Other = true
cuts_none last = false

abbrev pub is_quiet : ℕ → Reading → Bool
is_quiet b r = is_plain b && cuts_none r.word.last

abbrev pub letter_or : Bool → Last
letter_or letter = if letter then lasts.Letter else lasts.Other

abbrev pub plain_read : ℕ → Reading → Reading
plain_read b r = record r {
  ends = is_stop b && not (is_letter_byte b);
  word = record r.word { cells = sum r.word.cells 1; begun = true; last = letter_or (is_letter_byte b); more = 0 };
}

-- a unit at a place
abbrev pub taken : Unit → ℕ → Reading → Reading
taken u place r = with_more u.more (unit_read u (sum (sum place 1) u.more) r)

-- a byte that belongs to the unit before it
abbrev pub skipped : Reading → Reading
skipped r = with_more (r.word.more - 1) r

-- ---- lines

abbrev pub space_before : Join → ℕ
space_before (joins.Line space indent) = space
space_before join = 0

-- the line ends, and so many empty ones follow, 50 at most
abbrev pub breaks : ℕ → Reading → Reading
breaks more r = record r { join = joins.Line (min (sum (space_before r.join) more) 50) r.margins.indent }

abbrev pub gap_after : Bool → Join → Join
gap_after ends (joins.Line space indent) = joins.Line space indent
gap_after ends join = joins.Gap (if ends then 2 else 1)

-- the end of a line of text is a gap, of two blanks after a sentence
abbrev pub line_ends : Reading → Reading
line_ends r = if r.fills then record r { join = gap_after r.ends r.join } else breaks 0 r

abbrev pub deeper : ℕ → Join → Join
deeper n (joins.Line space indent) = joins.Line space (sum indent n)
deeper n join = join

-- blanks at the beginning of a line of text break, and indent it
abbrev pub indented : ℕ → Reading → Reading
indented n r = if n == 0 then r else record (breaks 0 r) { join = deeper n (breaks 0 r).join }

abbrev pub faced : Face → Reading → Reading
faced face r = record r { face = face }

abbrev pub face_once : Option Font → Reading → Reading
face_once None r = r
face_once (Some f) r = faced (face_of f) r

abbrev pub once_set : Reading → Reading
once_set r = face_once r.once r

abbrev pub face_left : Option Font → Reading → Reading
face_left None r = r
face_left (Some f) r = record r { face = face_of fonts.Roman; once = None }

abbrev pub once_left : Reading → Reading
once_left r = face_left r.once r

abbrev pub waits_for : Font → Reading → Reading
waits_for f r = record r { once = Some f }

-- ---- requests

abbrev pub margin_set : ℕ → Reading → Reading
margin_set n r = breaks 0 (record r { margins = record r.margins { indent = n; margin = n } })

-- one empty line before a paragraph that is not the first
abbrev pub paragraph : Reading → Reading
paragraph r = if r.begun then breaks 1 (margin_set r.margins.margin r) else margin_set r.margins.margin r

-- text after a tag is indented: beside it, or below where it has no room. What one says stays for the next ones, and for `.RS`
abbrev pub indented_by : ℕ → Reading → Reading
indented_by by r = record r { margins = record r.margins { indent = sum r.margins.margin by; by = by } }

abbrev pub hanging : ℕ → Reading → Reading
hanging by r = indented_by by (paragraph r)

abbrev pub waits_for_tag : ℕ → Reading → Reading
waits_for_tag by r = record (paragraph r) { tag = Some by }

abbrev pub tagged : ℕ → ℕ → Reading → Reading
tagged cells by r =
    let s = record (indented_by by r) { tag = None } in
    if nat_lt 0 cells && nat_lt cells by then record s { join = joins.Fixed (by - cells) } else breaks 0 s

abbrev pub filling_set : Bool → Reading → Reading
filling_set fills r = breaks 0 (record r { fills = fills })

abbrev pub spreading_set : Bool → Reading → Reading
spreading_set spread r = record r { seen = record r.seen { spread = spread } }

abbrev pub defining : Reading → Reading
defining r = record r { seen = record r.seen { defines = true } }

-- `.ft`: without a name or with P the font before
abbrev pub font_set : List ℕ → Reading → Reading
font_set [] r = faced (face_back r.face) r
font_set (b ∷ bs) r =
    if b == code "P" then faced (face_back r.face) r else faced (set_face (font_of b) r.face) r

-- `.ad`: l, c and r spread no line
abbrev pub is_even : List ℕ → Bool
is_even [] = true
is_even (b ∷ bs) = not ((b == code "l") || (b == code "c") || (b == code "r"))

-- one that has no words, with its first argument
abbrev pub obeyed : Request → List ℕ → Reading → Reading
obeyed requests.Break argument r = breaks 0 r
obeyed requests.Space argument r = breaks (number_or 1 argument) r
obeyed requests.Ragged argument r = spreading_set false r
obeyed requests.Adjust argument r = spreading_set (is_even argument) r
obeyed requests.Font argument r = font_set argument r
obeyed requests.Keep argument r = filling_set false r
obeyed requests.Fill argument r = filling_set true r
obeyed requests.Paragraph argument r = paragraph r
obeyed requests.Tagged argument r = waits_for_tag (number_or r.margins.by argument) r
obeyed requests.Hanging argument r = hanging (number_or r.margins.by argument) r
obeyed requests.Indent argument r = margin_set (number_or 0 argument) r
obeyed requests.Deeper argument r = margin_set (sum r.margins.margin (number_or r.margins.by argument)) r
obeyed requests.Back argument r = margin_set (r.margins.margin - r.margins.by) r
obeyed requests.Defines argument r = defining r
obeyed request argument r = r

-- ---- the words of a request

abbrev pub font_at : ℕ → Manner → Font
font_at n m = if n % 2 == 0 then m.first else m.second

abbrev pub word_begun : ℕ → Manner → Reading → Reading
word_begun n m r = record r {
  face = face_of (font_at n m);
  join = if nat_lt 0 n && not m.joined then joins.Gap 1 else r.join;
}

-- ---- the end of a block

abbrev pub has_space : Join → Bool
has_space (joins.Line space indent) = nat_lt 0 space
has_space join = false

abbrev pub ends_in_space : Reading → Bool
ends_in_space r = has_space r.join && r.begun

abbrev pub space_part : ℕ → Reading → Part
space_part place r =
    record no_part { start = place; «end» = place; join = joins.Line (space_before r.join - 1) 0 }
