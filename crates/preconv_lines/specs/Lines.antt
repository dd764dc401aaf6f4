-- Lines: control lines and their names, text lines, lines that pass as they are.
use Prim.Native.Char.{code}
use Rattle.std.specs.Prelude.{ℕ, List, [], ◌∷◌, ◌++◌, length, Bool, true, false, not, ◌==◌, ◌&&◌, ◌||◌}
use Rattle.std.specs.Prelude.{nat_le, if◌then◌else◌, codes}
use Rattle.nr_units.specs.Name.{is_full}
use Rattle.preconv_characters.specs.declared.said.Said.{Said}
use Rattle.preconv_characters.specs.declared.said.Said.TheVariants.{Nothing, Byte, Escape, Kept}
use Rattle.preconv_lines.specs.declared.half.Half.{Half}
use Rattle.preconv_lines.specs.declared.half.Line.{Line}
use Rattle.preconv_lines.specs.declared.half.Line.TheVariants as lines
use Rattle.preconv_lines.specs.declared.half.Tag.{Tag}
use Rattle.preconv_lines.specs.declared.half.Tag.TheVariants as tags
use Rattle.preconv_lines.specs.declared.half.TablePart.{TablePart}
use Rattle.preconv_lines.specs.declared.half.TablePart.TheVariants as tables
use Rattle.preconv_characters.specs.declared.marks.Before.{Before}
use Rattle.preconv_characters.specs.declared.marks.Before.TheVariants as befores
use Rattle.preconv_characters.specs.declared.marks.Mark.TheVariants as marks
use Rattle.preconv_lines.specs.declared.half.Pair.{Pair}
use Rattle.preconv_lines.specs.declared.half.Pair.TheVariants.{First, Second, Other as OtherPair}
use Rattle.preconv_lines.specs.declared.half.Dots.{Dots}
use Rattle.preconv_lines.specs.declared.half.Dots.TheVariants as dots
use Rattle.preconv_characters.specs.declared.beginnings.Opens.{Opens}
use Rattle.preconv_characters.specs.declared.beginnings.Opens.TheVariants as opens
use Rattle.preconv_characters.specs.declared.words.Words.{Words}
use Rattle.preconv_characters.specs.declared.words.Emitted.{Emitted}
use Rattle.preconv_characters.specs.declared.words.Fonts.TheVariants.{Tag as TagFonts}
use Rattle.preconv_characters.specs.declared.words.Class.{Class}
use Rattle.preconv_characters.specs.declared.words.Class.TheVariants.{Other}
use Rattle.preconv_lines.specs.Half.{Offered, taken, left, is_in_last, is_read, with_format}
use Rattle.preconv_lines.specs.Half.{character_said, with_text}
use Rattle.preconv_lines.specs.Translations.{translated, with_pair}
use Rattle.preconv_characters.specs.Beginnings.{opened, said_name, is_roman}
use Rattle.preconv_lines.specs.Faces.{in_face, face_ended}
use Rattle.preconv_characters.specs.Marks.{wide_mark}
use Rattle.preconv_lines.specs.Hyphens.{placed, gone_by, showing, carriage_return, is_moved}
use Rattle.preconv_lines.specs.Hyphens.{saying, in_text, hyphen, turns_hyphens, is_flowing}
use Rattle.preconv_lines.specs.Conditions.{is_gap, before_condition, in_number, in_strings, in_asked}
use Rattle.preconv_characters.specs.Words.{first_words, no_font, begins_word, is_ninth, offered_words}
use Rattle.preconv_characters.specs.Words.{class_of}

-- a blank, a control byte or a backslash ends a name
abbrev pub ends_name : ℕ → Bool
ends_name b = nat_le b (code " ") || (b == code "\\") || (b == 127)

-- ---- a line begins

abbrev pub is_control : ℕ → Bool
is_control b = (b == code ".") || (b == code "'")

abbrev pub control : Bool → ℕ → Half → Offered
control conditional b h = saying b lines.Control (record h { name = []; conditional = conditional })

-- the line before has the tag of a paragraph
abbrev pub follows_tag : Half → Bool
follows_tag h = is_flowing h && is_in_last h.tag

-- Text stands beside the tag that waits for it, where an empty line, or one that begins with a blank, would
-- only end a word. The request breaks.
abbrev pub begins_apart : ℕ → Bool
begins_apart b = (b == code "\n") || (b == code " ")

abbrev pub breaking : ℕ → Half → Offered
breaking b h = left (Kept (if b == code "\n" then codes ".sp" else codes ".br\n")) (record h { tag = tags.Nowhere })

abbrev pub at_start : ℕ → Half → Offered
at_start b h =
    if is_control b then control false b h else
    if follows_tag h && begins_apart b then breaking b h else
    if b == code "\n" then saying b lines.Start h else in_text b h

-- Blanks before the first word of a filled line are dropped. After fonts they are printed, as are those
-- between words.
abbrev pub after_fonts : ℕ → Half → Offered
after_fonts b h =
    if (b == code " ") && not (is_read h.table) then left (Escape (code "&")) (record h { line = lines.Text })
    else in_text b h

-- after a condition, where blanks are skipped
abbrev pub at_part : ℕ → Half → Offered
at_part b h =
    if is_control b then control true b h else
    if b == code "\n" then saying b lines.Start h else
    if is_gap b then saying b h.line h else in_text b h

-- ---- the name of a control line

abbrev pub naming : List ℕ → Line → Half → Offered
naming name line h = taken Nothing (record h { name = name; line = line })

abbrev pub blanks_said : Line → Half → Offered
blanks_said line h = left (Kept h.name) (record h { name = []; line = line })

-- Blanks after the control character are kept. In a definition they are dropped before a second one, which
-- ends it.
abbrev pub after_control : ℕ → Half → Offered
after_control b h =
    if (b == code ".") && h.defining then naming (code "." ∷ []) lines.Name h else
    if is_gap b && not (is_full h.name) then naming (h.name ++ b ∷ []) lines.Control h else
    if not (length h.name == 0) then blanks_said lines.Control h else
    if ends_name b then blanks_said lines.Request h else naming (b ∷ []) lines.Name h

-- Lines are ignored up to one that begins with two dots. After a condition that isn't known, nor where a name
-- ends them.
abbrev pub line_of : Opens → Bool → Line
line_of opens.Rest ignores = lines.Request
line_of opens.Definition ignores = lines.Request
line_of opens.End ignores = lines.Request
line_of opens.Title ignores = lines.Request
line_of opens.Paragraph ignores = lines.Words (first_words TagFonts)
line_of opens.Address ignores = lines.Words (first_words TagFonts)
line_of opens.Tagged ignores = lines.Request
line_of opens.Plain ignores = lines.Request
line_of opens.Face ignores = lines.Face
line_of opens.Table ignores = lines.Request
line_of opens.TableEnd ignores = lines.Request
line_of opens.Ignored ignores = if ignores then lines.Ignored dots.Other else lines.Request
line_of opens.Condition ignores = lines.Condition
line_of opens.Else ignores = lines.Part
line_of opens.Nop ignores = lines.Part
line_of opens.Stored ignores = lines.Stored
line_of opens.Translation ignores = lines.Translation First
line_of (opens.Words fonts) ignores = lines.Words (first_words fonts)

abbrev pub defining_by : Opens → Bool → Bool
defining_by opens.Definition before = true
defining_by opens.End before = false
defining_by o before = before

-- a title makes a manual page, but in a table it is the end of the table's heading
abbrev pub manual_by : Opens → Half → Bool
manual_by opens.Title h = h.manual || not (is_read h.table)
manual_by o h = h.manual

-- the format of a table ends with a dot, but not with that of the line that begins it
abbrev pub table_by : Opens → TablePart → TablePart
table_by opens.Table table = with_format table
table_by opens.TableEnd table = tables.Nowhere
table_by o table = table

abbrev pub before_by : Opens → Before → Before
before_by opens.Table before = befores.Character marks.Other
before_by o before = before

-- the tag of a paragraph stands in the same line, or is the next one; an address stands in its line
abbrev pub tag_by : Opens → Tag → Tag
tag_by opens.Paragraph tag = tags.InThis
tag_by opens.Tagged tag = tags.InNext
tag_by opens.Address tag = tags.Address
tag_by o tag = tag

abbrev pub opening : Opens → ℕ → Half → Half
opening o b h = record h {
  line = line_of o ((b == code "\n") && not h.conditional);
  defining = defining_by o h.defining;
  manual = manual_by o h;
  table = table_by o h.table;
  before = before_by o h.before;
  tag = tag_by o h.tag;
  font = if is_roman o then code "R" else h.font;
  previous = if is_roman o then code "R" else h.previous;
  word_font = no_font;
}

-- the name goes out before the byte that ended it
abbrev pub named_line : ℕ → Half → Offered
named_line b h =
    left (said_name (opened h.name) h.name b) (record (opening (opened h.name) b h) { name = [] })

abbrev pub in_name : ℕ → Half → Offered
in_name b h =
    if ends_name b || is_full h.name then named_line b h
    else taken Nothing (record h { name = h.name ++ b ∷ [] })

-- ---- the rest of a line

abbrev pub in_rest : ℕ → Half → Offered
in_rest b h =
    if b == carriage_return then taken Nothing h else saying b (if b == code "\n" then lines.Start else h.line) h

-- ---- a line of `.tr`: of each two characters the first becomes the second, and the last a blank if it stands alone

abbrev pub pairing : ℕ → ℕ → Half → Half
pairing a b h = record h { translating = true; translations = with_pair a b h.translations }

abbrev pub translation_ended : Pair → Half → Half
translation_ended (Second a) h = pairing a (code " ") h
translation_ended pair h = h

abbrev pub translation_on : Pair → ℕ → Half → Offered
translation_on First b h = saying b (lines.Translation (if b == code " " then First else Second b)) h
translation_on (Second a) b h = saying b (lines.Translation First) (pairing a b h)
translation_on OtherPair b h = saying b (lines.Translation First) h

abbrev pub in_translation : Pair → ℕ → Half → Offered
in_translation pair b h =
    if b == carriage_return then taken Nothing h else
    if b == code "\n" then saying b lines.Start (translation_ended pair h) else translation_on pair b h

abbrev pub as_offered : Emitted → Half → Offered
as_offered emitted h =
    record { half = record h { line = lines.Words emitted.words }; said = emitted.said; takes = emitted.takes }

abbrev pub among_words : Words → Class → Said → Half → Offered
among_words words class said h = as_offered (offered_words class said words) h

-- the ninth word has its last quote before the newline
-- one that is dropped or translated
abbrev pub word_moved : Words → ℕ → Half → Offered
word_moved words b h =
    if b == carriage_return then taken Nothing h else
    let c = translated b h.translations in
    among_words words Other (character_said (lines.Words words) c) (placed (wide_mark c) h)

abbrev pub in_words : Words → ℕ → Half → Offered
in_words words b h =
    if is_moved b h then word_moved words b h else
    if (b == code "-") && turns_hyphens h && not (begins_word words) then hyphen (lines.Words words) h else
    if not (b == code "\n") then among_words words (class_of b) (Byte b) (gone_by b h) else
    if is_ninth words then left (Byte (code "\"")) (record h { line = lines.Request })
    else saying b lines.Start h

-- ---- comments and ignored lines: bytes pass as they are

-- the last of the ignored lines begins with two dots
abbrev pub after_ignored : Dots → Line
after_ignored dots.Two = lines.Start
after_ignored d = lines.Ignored dots.Start

abbrev pub one_dot_more : Dots → Dots
one_dot_more dots.Start = dots.One
one_dot_more dots.One = dots.Two
one_dot_more d = d

abbrev pub no_dot : Dots → Dots
no_dot dots.Two = dots.Two
no_dot d = dots.Other

abbrev pub line_passed : Line → ℕ → Line
line_passed lines.Comment b = if b == code "\n" then lines.Start else lines.Comment
line_passed (lines.Ignored d) b =
    if b == code "\n" then after_ignored d else
    if b == code "." then lines.Ignored (one_dot_more d) else lines.Ignored (no_dot d)
line_passed line b = line

abbrev pub passing : ℕ → Half → Half
passing b h = record h { line = line_passed h.line b }

-- ---- by where the line is read

abbrev pub in_line_at : Line → ℕ → Half → Offered
in_line_at lines.Start b h = at_start b h
in_line_at lines.Control b h = after_control b h
in_line_at lines.Name b h = in_name b h
in_line_at (lines.Words words) b h = in_words words b h
in_line_at (lines.Translation pair) b h = in_translation pair b h
in_line_at lines.Face b h = in_face b h
in_line_at lines.Condition b h = before_condition b h
in_line_at lines.Number b h = in_number b h
in_line_at (lines.Strings delimiter ended) b h = in_strings delimiter ended b h
in_line_at (lines.Asked asked) b h = in_asked asked b h
in_line_at lines.Part b h = at_part b h
in_line_at lines.Braced b h = at_part b h
in_line_at lines.Comment b h = taken (Byte b) (passing b h)
in_line_at (lines.Ignored d) b h = taken (Byte b) (passing b h)
in_line_at lines.Text b h = in_text b h
in_line_at lines.Fonts b h = after_fonts b h
in_line_at line b h = in_rest b h

abbrev pub in_line : ℕ → Half → Offered
in_line b h = in_line_at h.line b h

-- ---- characters beyond ASCII

abbrev pub wide_at : Line → ℕ → Half → Offered
wide_at lines.Start c h = showing c lines.Text h
wide_at lines.Part c h = showing c lines.Text h
wide_at lines.Braced c h = showing c lines.Text h
wide_at lines.Condition c h = showing c lines.Text h
wide_at lines.Fonts c h = showing c lines.Text h
wide_at lines.Control c h = blanks_said lines.Request h
wide_at lines.Name c h = named_line (code " ") h
wide_at lines.Face c h = face_ended h
wide_at (lines.Words words) c h =
    among_words words Other (character_said (lines.Words words) c) (placed (wide_mark c) h)
wide_at (lines.Asked asked) c h = in_asked asked (code "?") h
wide_at line c h = showing c (with_text line) h

abbrev pub wide_in_line : ℕ → Half → Offered
wide_in_line c h = wide_at h.line c h

-- ---- a backslash begins an escape

abbrev pub takes_escape : Line → Bool
takes_escape lines.Control = false
takes_escape lines.Name = false
takes_escape lines.Face = false
takes_escape (lines.Asked asked) = false
takes_escape lines.Comment = false
takes_escape (lines.Ignored dots) = false
takes_escape line = true
