-- What the name in an escape stands for (groff(7); groff_char(7)).
use Prim.Native.Char.{code}
use Rattle.std.specs.Prelude.{ℕ, ◌-◌, List, [], ◌∷◌, ◌++◌, length, take, drop, Bool, true, false, not, ◌==◌, ◌&&◌}
use Rattle.std.specs.Prelude.{if◌then◌else◌, Option, None, Some, codes}
use Rattle.std.specs.Str.{bytes_eq}
use Rattle.preconv_characters.specs.declared.said.Said.TheVariants as says
use Rattle.preconv_lines.specs.declared.half.Half.{Half}
use Rattle.preconv_lines.specs.declared.half.Line.{Line}
use Rattle.preconv_lines.specs.declared.half.Line.TheVariants as lines
use Rattle.preconv_lines.specs.declared.half.Escape.{Escape}
use Rattle.preconv_lines.specs.declared.half.Escape.TheVariants as escapes
use Rattle.preconv_characters.specs.declared.marks.Before.TheVariants.{Character}
use Rattle.preconv_characters.specs.declared.marks.Mark.TheVariants.{Other}
use Rattle.preconv_lines.specs.declared.half.Kind.{Kind}
use Rattle.preconv_lines.specs.declared.half.Kind.TheVariants as kinds
use Rattle.preconv_lines.specs.Half.{Offered, taken, character_said, marked_said, without_escape}
use Rattle.preconv_characters.specs.Marks.{wide_mark, is_hang}
use Rattle.preconv_lines.specs.Hyphens.{placed}
use Rattle.preconv_characters.specs.Glyphs.{is_pair, is_native, is_struck, glyph_code, code_of, overstruck}
use Rattle.preconv_characters.specs.Glyphs.{quote_of, string_code}
use Rattle.preconv_characters.specs.Composed.{has_marks, marked_by}
use Rattle.preconv_lines.specs.Faces.{font_named}
use Rattle.preconv_characters.specs.Numbers.{is_number}
use Rattle.preconv_lines.specs.Endings.{ended, ended_kept, dropped, kept_or}

-- between delimiters, which the language has for no name of a character
abbrev pub is_delimited : Escape → Bool
is_delimited (escapes.Delimited kind end) = true
is_delimited escape = false

abbrev pub character : Option ℕ → Half → Offered
character None h = if is_delimited h.escape then dropped h else ended_kept h
character (Some c) h = ended (character_said h.line c) (placed (wide_mark c) h)

abbrev pub struck : Option ℕ → Half → Offered
struck None h = character None h
struck (Some c) h = ended (says.Struck c) (placed Other h)

abbrev pub is_translation : Line → Bool
is_translation (lines.Translation pair) = true
is_translation line = false

-- one that the language has goes out as it was kept, or as a byte
abbrev pub native : Option ℕ → Half → Offered
native None h = ended_kept h
native (Some c) h = ended (says.Native h.kept c) (placed (wide_mark c) h)

-- a letter with marks
abbrev pub marked : Option ℕ → Half → Offered
marked None h = character None h
marked (Some c) h = ended (marked_said h.line (marked_by h.spelled c)) (placed (wide_mark (marked_by h.spelled c).whole) h)

abbrev pub sign : Half → Offered
sign h =
    if is_struck h.spelled then struck (glyph_code h.spelled) h else
    if has_marks h.spelled then marked (glyph_code h.spelled) h else character (glyph_code h.spelled) h

abbrev pub quoted : Option (List ℕ) → Half → Offered
quoted None h = sign h
quoted (Some quote) h = ended (says.Kept quote) (placed Other h)

-- A character by its name. `.tr \(*W-` makes \(*W a dash; where `.tr \(is'` came, three signs are quotes.
abbrev pub glyph : Half → Offered
glyph h =
    if is_native h.spelled && not (is_delimited h.escape) then native (glyph_code h.spelled) h else
    if is_pair (code "*") (code "W") h.spelled && is_translation h.line
    then ended_kept (record h { dashes = true }) else
    if is_pair (code "*") (code "W") h.spelled && h.dashes
    then ended (says.Escape (code "-")) (placed Other h) else
    if is_pair (code "i") (code "s") h.spelled && is_translation h.line
    then ended_kept (record h { quotes = true }) else
    if h.quotes && not (is_translation h.line) then quoted (quote_of h.spelled) h else sign h

abbrev pub numbered : Half → Offered
numbered h = character (code_of h.spelled) h

-- a string of man(7) that is a character
abbrev pub string : Option ℕ → Half → Offered
string None h = ended_kept h
string (Some c) h = kept_or c h

abbrev pub tested : Bool → Half → Offered
tested holds h = ended (says.Byte (if holds then code "1" else code "0")) (placed Other h)

-- so far to the left the line begins
abbrev pub hang : Half → Offered
hang h =
    if is_hang h.spelled
    then taken (says.Hang h.spelled) (record (without_escape h)
    { line = lines.Text; before = Character Other }) else ended_kept h

-- The register `.g` is 1. The indent of a manual page, which groff's macros have in `an-margin`, is `_` in
-- tmac.an.
abbrev pub margin : List ℕ
margin = codes "[an-margin]"

abbrev pub before_name : Half → ℕ
before_name h = length h.kept - length margin

unfoldable pub register : Half → Offered
register h =
    if is_pair (code ".") (code "g") h.spelled then ended (says.Byte (code "1")) (placed Other h) else
    if bytes_eq (drop (before_name h) h.kept) margin
    then ended (says.Kept (take (before_name h) h.kept ++ code "_" ∷ [])) (placed Other h) else ended_kept h

-- Sizes and colours are dropped.
abbrev pub named : Kind → Half → Offered
named kinds.Glyph h = glyph h
named kinds.Code h = numbered h
named kinds.Font h = font_named h
named kinds.Register h = register h
named kinds.Size h = dropped h
named kinds.Dropped h = dropped h
named kinds.Identifier h = tested (not (length h.spelled == 0)) h
named kinds.Number h = tested (is_number h.spelled) h
named kinds.Text h = string (string_code h.spelled) h
named kinds.Hang h = hang h
named kinds.Overstruck h = character (overstruck h.spelled) h
