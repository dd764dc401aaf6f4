-- Lines of a page as they are written.
use Prim.Native.Char.{code}
use Rattle.std.specs.Prelude.{ℕ, List, [], ◌∷◌, ◌++◌, length, Bool, true, false, not, ◌==◌, ◌&&◌, ◌||◌}
use Rattle.std.specs.Prelude.{Option, None, Some, nat_lt, codes}
use Rattle.preconv_characters.specs.declared.beginnings.Opens.{Opens}
use Rattle.preconv_characters.specs.declared.beginnings.Opens.TheVariants as opens
use Rattle.preconv_characters.specs.Beginnings.{opened}
use Rattle.std.specs.Char.{encode_utf8}
use Rattle.std.specs.Str.{all_scalars}
use Rattle.preconv_lines.specs.Lines.{is_control, ends_name}
use Rattle.preconv_converter.specs.Runs.{is_kept, is_font, goes_on_comment}
use Rattle.preconv_lines.specs.Half.{is_space}
use Rattle.preconv_characters.specs.Glyphs.{is_pair, is_native, pair_code}

-- a byte of ASCII in a line: neither DEL, a newline, a carriage return nor a backslash
abbrev pub is_text : ℕ → Bool
is_text b = nat_lt b 127 && not (b == code "\n") && not (b == 13) && not (b == code "\\")

abbrev pub each : (ℕ → Bool) → List ℕ → Bool
each test [] = true
each test (b ∷ bs) = test b && each test bs

-- a name of such bytes that no blank ends
abbrev pub is_letter : ℕ → Bool
is_letter b = is_text b && not (ends_name b)

-- the lines of these macros and requests are of no account to preconv but for their names: titles,
-- paragraphs, tables, strings, definitions (`de1` becomes `de`), and all that it does not know
abbrev pub passes : Opens → ℕ → Bool
passes opens.Rest len = true
passes opens.End len = true
passes opens.Title len = true
passes opens.Plain len = true
passes opens.Tagged len = true
passes opens.Table len = true
passes opens.TableEnd len = true
passes opens.Stored len = true
passes opens.Definition len = not (len == 3)
passes o len = false

abbrev pub is_name : List ℕ → Bool
is_name name = each is_letter name && nat_lt (length name) 32

-- nothing stands there, or a blank first
abbrev pub begins_blank : List ℕ → Bool
begins_blank [] = true
begins_blank (b ∷ bs) = b == code " "

-- ---- signs of text lines

-- a byte; an escape of two bytes that the language has, `\- \& \| \c \e`; a font, `\fB \fI \fP \fR \f1 .. \f5
-- \fV`; a character beyond ASCII; one by a name of two bytes
pub data Sign : Type 0 where
  Byte : ℕ → Sign
  Escape : ℕ → Sign
  Font : ℕ → Sign
  Character : ℕ → Sign
  Glyph : ℕ → ℕ → ℕ → Sign

abbrev pub is_same : Option ℕ → ℕ → Bool
is_same None c = false
is_same (Some d) c = d == c

-- the name of this character, for which the language has none, and that is no dash by a translation
abbrev pub names : ℕ → ℕ → ℕ → Bool
names a b c = not (is_native (a ∷ b ∷ [])) && not (is_pair (code "*") (code "W") (a ∷ b ∷ [])) && is_same (pair_code a b) c

-- B, I, P or R, or one of the names that stand for these: 1 to 5, V
abbrev pub is_face : ℕ → Bool
is_face b =
    is_font b || (b == code "1") || (b == code "2") || (b == code "3") || (b == code "4") || (b == code "5")
    || (b == code "V")

abbrev pub is_sign : Sign → Bool
is_sign (Byte b) = is_text b
is_sign (Escape b) = is_kept b
is_sign (Font b) = is_face b
is_sign (Glyph a b c) = is_text a && is_text b && names a b c
is_sign (Character c) = nat_lt 126 c && all_scalars (c ∷ [])

-- a line that begins with it is a text line
abbrev pub begins_text : Sign → Bool
begins_text (Byte b) = not (is_control b)
begins_text s = true

abbrev pub written_sign : Sign → List ℕ
written_sign (Byte b) = b ∷ []
written_sign (Escape b) = code "\\" ∷ b ∷ []
written_sign (Font b) = code "\\" ∷ code "f" ∷ b ∷ []
written_sign (Glyph a b c) = code "\\" ∷ code "(" ∷ a ∷ b ∷ []
written_sign (Character c) = encode_utf8 c

-- and what stands after them
abbrev pub written_signs : List Sign → List ℕ → List ℕ
written_signs [] rest = rest
written_signs (s ∷ ss) rest = written_sign s ++ written_signs ss rest

-- ---- words of font macros

-- a word as it is written, by its first sign and the others, or between quotes
pub data Word : Type 0 where
  Bare : Sign → List Sign → Word
  Quoted : List Sign → Word

-- between quotes stands no quote, and no blank that isn't of ASCII: it would be `\0`
abbrev pub is_quotable : Sign → Bool
is_quotable (Byte b) = is_text b && not (b == code "\"")
is_quotable (Character c) = is_sign (Character c) && not (is_space c)
is_quotable (Glyph a b c) = is_sign (Glyph a b c) && not (is_space c)
is_quotable s = is_sign s

-- and no blank without them
abbrev pub is_bare : Sign → Bool
is_bare (Byte b) = is_quotable (Byte b) && not (b == code " ")
is_bare s = is_quotable s

abbrev pub all_are : (Sign → Bool) → List Sign → Bool
all_are test [] = true
all_are test (s ∷ ss) = test s && all_are test ss

abbrev pub is_word : Word → Bool
is_word (Bare s ss) = is_bare s && all_are is_bare ss
is_word (Quoted ss) = all_are is_quotable ss

abbrev pub are_words : List Word → Bool
are_words [] = true
are_words (w ∷ ws) = is_word w && are_words ws

abbrev pub written_word : Word → List ℕ → List ℕ
written_word (Bare s ss) rest = written_sign s ++ written_signs ss rest
written_word (Quoted ss) rest = code "\"" ∷ written_signs ss (code "\"" ∷ rest)

-- each after one blank, and the line's end
abbrev pub written_words : List Word → List ℕ
written_words [] = codes "\n"
written_words (w ∷ ws) = code " " ∷ written_word w (written_words ws)

-- the words of these macros are read: those of one font or two, headings, tags and addresses
abbrev pub takes_words : Opens → Bool
takes_words (opens.Words fonts) = true
takes_words opens.Paragraph = true
takes_words opens.Address = true
takes_words o = false

-- ---- lines

-- An empty line; a comment, by its control character and its text; a text line, by its first sign and the
-- others; a control character alone; a request's line, by its control character, its name, by the first byte
-- and the others, and what stands after it; and a font macro's, by its words.
pub data Line : Type 0 where
  EmptyLine : Line
  CommentLine : ℕ → List ℕ → Line
  TextLine : Sign → List Sign → Line
  ControlLine : ℕ → Line
  RequestLine : ℕ → ℕ → List ℕ → List ℕ → Line
  WordsLine : ℕ → ℕ → List ℕ → List Word → Line

abbrev pub is_line : Line → Bool
is_line EmptyLine = true
is_line (CommentLine control bs) = is_control control && each goes_on_comment bs
is_line (TextLine s ss) = is_sign s && begins_text s && all_are is_sign ss
is_line (ControlLine control) = is_control control
is_line (RequestLine control b bs rest) =
    is_control control && is_name (b ∷ bs) && passes (opened (b ∷ bs)) (length (b ∷ bs))
    && (begins_blank rest && each is_text rest)
is_line (WordsLine control b bs words) =
    is_control control && is_name (b ∷ bs) && takes_words (opened (b ∷ bs)) && are_words words

abbrev pub are_lines : List Line → Bool
are_lines [] = true
are_lines (l ∷ ls) = is_line l && are_lines ls

abbrev pub written_line : Line → List ℕ
written_line EmptyLine = codes "\n"
written_line (CommentLine control bs) = control ∷ code "\\" ∷ code "\"" ∷ (bs ++ codes "\n")
written_line (TextLine s ss) = written_sign s ++ written_signs ss (codes "\n")
written_line (ControlLine control) = control ∷ codes "\n"
written_line (RequestLine control b bs rest) = control ∷ ((b ∷ bs) ++ (rest ++ codes "\n"))
written_line (WordsLine control b bs words) = control ∷ ((b ∷ bs) ++ written_words words)

abbrev pub written_lines : List Line → List ℕ
written_lines [] = []
written_lines (l ∷ ls) = written_line l ++ written_lines ls
