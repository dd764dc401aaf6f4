-- Fonts (the groff manual, Changing Fonts): a name that is no font of a terminal keeps the one that is set,
-- and counts as a change of fonts, so that the previous one is the same. So the page's font is followed, in
-- text and in lines of `.ft`.
use Prim.Native.Char.{code}
use Rattle.std.specs.Prelude.{ℕ, List, [], length, Bool, true, false, ◌==◌, ◌&&◌, ◌||◌, if◌then◌else◌, Option}
use Rattle.std.specs.Prelude.{None, Some}
use Rattle.preconv_characters.specs.declared.said.Said.TheVariants as says
use Rattle.preconv_lines.specs.declared.half.Half.{Half}
use Rattle.preconv_lines.specs.declared.half.Line.{Line}
use Rattle.preconv_lines.specs.declared.half.Line.TheVariants as lines
use Rattle.preconv_lines.specs.Half.{Offered, taken, left}
use Rattle.preconv_characters.specs.Glyphs.{font_of}
use Rattle.preconv_characters.specs.declared.words.WordFont.{WordFont}
use Rattle.preconv_characters.specs.Words.{word_font, with_face}
use Rattle.preconv_lines.specs.Hyphens.{saying}
use Rattle.preconv_lines.specs.Endings.{with_byte, ended_font}

-- the font here, by its letter: that of a macro's word, or of text
abbrev pub face_at : Line → ℕ → WordFont → ℕ
face_at (lines.Words words) font set = word_font set words
face_at line font set = font

abbrev pub is_words : Line → Bool
is_words (lines.Words words) = true
is_words line = false

-- one is set: the one before is the previous one. What is set in a macro's line holds no longer than that.
abbrev pub font_after : Line → ℕ → ℕ → ℕ → ℕ
font_after line letter font previous =
    if is_words line then font else if letter == code "P" then previous else letter

abbrev pub previous_after : Line → ℕ → ℕ → ℕ
previous_after line font previous = if is_words line then previous else font

abbrev pub word_font_after : Line → ℕ → WordFont → WordFont
word_font_after (lines.Words words) letter set = with_face letter set words
word_font_after line letter set = set

abbrev pub faced : ℕ → Half → Half
faced letter h = record h {
  font = font_after h.line letter h.font h.previous;
  previous = previous_after h.line h.font h.previous;
  word_font = word_font_after h.line letter h.word_font;
}

abbrev pub font_or : Option ℕ → ℕ → ℕ
font_or None face = face
font_or (Some letter) face = letter

abbrev pub named_face : List ℕ → Half → ℕ
named_face name h = font_or (font_of name) (face_at h.line h.font h.word_font)

-- ---- by an escape

abbrev pub font_named : Half → Offered
font_named h = ended_font (says.Font (named_face h.spelled h)) (faced (named_face h.spelled h) h)

-- ---- by a line of `.ft`

abbrev pub face_ended : Half → Offered
face_ended h =
    left (if length h.name == 0 then says.Nothing else says.Byte (named_face h.name h))
    (record (faced (named_face h.name h) h) { line = lines.Request; name = [] })

-- what an escape names there isn't known
abbrev pub face_unknown : Half → Offered
face_unknown h =
    left says.Nothing (record h { font = code "R"; previous = code "R"; line = lines.Request })

abbrev pub in_face : ℕ → Half → Offered
in_face b h =
    if b == code "\n" then face_ended h else
    if ((b == code " ") || (b == code "\t")) && (length h.name == 0) then saying b lines.Face h else
    if (b == code "\\") && (length h.name == 0) then face_unknown h else
    if (b == code " ") || (b == code "\t") || (b == code "\\") then face_ended h else
    if b == 13 then taken says.Nothing h else taken says.Nothing (record h { name = with_byte b h.name })
