-- What is half read, and what a character does to it.
use Prim.Native.Char.{code}
use Rattle.std.specs.Prelude.{ℕ, [], Bool, true, false, not, ◌==◌, ◌&&◌, ◌||◌, if◌then◌else◌}
use Rattle.preconv_characters.specs.declared.said.Said.{Said}
use Rattle.preconv_characters.specs.declared.said.Said.TheVariants as says
use Rattle.preconv_characters.specs.declared.composed.Marked.{Marked}
use Rattle.preconv_lines.specs.declared.half.Half.{Half}
use Rattle.preconv_lines.specs.declared.half.Seen.{Seen}
use Rattle.preconv_lines.specs.declared.half.Line.{Line}
use Rattle.preconv_lines.specs.declared.half.Line.TheVariants as lines
use Rattle.preconv_characters.specs.declared.marks.Before.{Before}
use Rattle.preconv_characters.specs.declared.marks.Before.TheVariants.{Character}
use Rattle.preconv_characters.specs.declared.marks.Mark.TheVariants.{Other, Stop}
use Rattle.preconv_lines.specs.declared.half.TablePart.{TablePart}
use Rattle.preconv_lines.specs.declared.half.TablePart.TheVariants as tables
use Rattle.preconv_lines.specs.declared.half.Tag.{Tag}
use Rattle.preconv_lines.specs.declared.half.Tag.TheVariants as tags
use Rattle.preconv_lines.specs.declared.half.Pair.{Pair}
use Rattle.preconv_lines.specs.declared.half.Pair.TheVariants.{First, Second, Other as OtherPair}
use Rattle.preconv_lines.specs.declared.half.Escape.{Escape}
use Rattle.preconv_lines.specs.declared.half.Escape.TheVariants as escapes
use Rattle.preconv_characters.specs.Likeness.{is_blank}
use Rattle.preconv_lines.specs.Translations.{no_translations}
use Rattle.preconv_characters.specs.Words.{no_font}

-- what is half read then, what goes out, and whether the character is taken: one that is left is offered
-- again
pub record Offered : Type 0 where
  pub half : Half
  pub said : Said
  pub takes : Bool

-- the same, as the program has it
abbrev pub offered : Half → Seen → Offered
offered h seen = record { half = h; said = seen.said; takes = seen.takes }

abbrev pub taken : Said → Half → Offered
taken said h = record { half = h; said = said; takes = true }

abbrev pub left : Said → Half → Offered
left said h = record { half = h; said = said; takes = false }

-- a page begins
abbrev pub first_half : Half
first_half =
    record {
      line = lines.Start;
      escape = escapes.Plain;
      kept = [];
      spelled = [];
      name = [];
      conditional = false;
      defining = false;
      dashes = false;
      quotes = false;
      manual = false;
      table = tables.Nowhere;
      before = Character Other;
      tag = tags.Nowhere;
      font = code "R";
      previous = code "R";
      word_font = no_font;
      translating = false;
      translations = no_translations;
    }

-- ---- where a line is read

-- nothing of a text line was read yet
abbrev pub is_beginning : Line → Bool
is_beginning lines.Start = true
is_beginning lines.Part = true
is_beginning lines.Braced = true
is_beginning line = false

-- what is read next is text
abbrev pub is_text : Line → Bool
is_text lines.Start = true
is_text lines.Part = true
is_text lines.Braced = true
is_text lines.Text = true
is_text lines.Fonts = true
is_text line = false

-- in a line of `.tr` after a character that is no byte: one that is translated so, or what a byte becomes, is
-- left
abbrev pub after_other : Pair → Pair
after_other First = OtherPair
after_other (Second b) = First
after_other OtherPair = First

-- after something that is printed
abbrev pub with_text : Line → Line
with_text lines.Start = lines.Text
with_text lines.Part = lines.Text
with_text lines.Braced = lines.Text
with_text lines.Fonts = lines.Text
with_text (lines.Translation pair) = lines.Translation (after_other pair)
with_text line = line

-- after a font
abbrev pub with_font : Line → Line
with_font lines.Start = lines.Fonts
with_font lines.Part = lines.Fonts
with_font lines.Braced = lines.Fonts
with_font line = line

-- in which line a tag stands when this one ends
abbrev pub next_line : Tag → Tag
next_line tags.InNext = tags.InThis
next_line tags.InThis = tags.InLast
next_line tag = tags.Nowhere

-- the words of this line stay whole: those of a tag or an address
abbrev pub is_whole : Tag → Bool
is_whole tags.InThis = true
is_whole tags.Address = true
is_whole tag = false

abbrev pub is_in_last : Tag → Bool
is_in_last tags.InLast = true
is_in_last tag = false

abbrev pub is_read : TablePart → Bool
is_read tables.Nowhere = false
is_read table = true

abbrev pub is_format : TablePart → Bool
is_format tables.Format = true
is_format table = false

abbrev pub is_separated : TablePart → Bool
is_separated tables.Separated = true
is_separated table = false

-- a format begins, of a table or of more rows of it
abbrev pub with_format : TablePart → TablePart
with_format tables.Separated = tables.Separated
with_format table = tables.Format

-- what is read of a table when a line ends, before whose end this stands: a format ends with a dot
abbrev pub table_after : TablePart → Before → TablePart
table_after tables.Format (Character Stop) = tables.Rows
table_after table before = table

-- a blank that isn't what separates words
abbrev pub is_space : ℕ → Bool
is_space c = (c == code " ") || (c == 160) || is_blank c

-- what is said for a character: a blank must not end a word of a control line
abbrev pub character_said : Line → ℕ → Said
character_said line c = if is_space c && not (is_text line) then says.Escape (code "0") else says.Character c

abbrev pub marked_said : Line → Marked → Said
marked_said line m = if is_space m.letter && not (is_text line) then says.Escape (code "0") else says.Marked m

-- after a condition, where `\{` begins a part
abbrev pub takes_brace : Line → Bool
takes_brace lines.Part = true
takes_brace lines.Braced = true
takes_brace lines.Number = true
takes_brace (lines.Strings delimiter ended) = true
takes_brace line = false

abbrev pub is_plain : Escape → Bool
is_plain escapes.Plain = true
is_plain escape = false

-- no escape is half read, and no byte is translated
abbrev pub is_open : Half → Bool
is_open h = is_plain h.escape && not h.translating

-- ---- escapes that end

abbrev pub without_escape : Half → Half
without_escape h = record h { escape = escapes.Plain; kept = []; spelled = [] }

-- the text of a line has begun
abbrev pub in_text : Half → Half
in_text h = record h { line = with_text h.line }

-- or nothing of it but fonts
abbrev pub in_fonts : Half → Half
in_fonts h = record h { line = with_font h.line }

-- it is none: what was kept goes out, and the character that comes is read anew
abbrev pub abandoned : Half → Offered
abandoned h = left (says.Kept h.kept) (in_text (without_escape h))
