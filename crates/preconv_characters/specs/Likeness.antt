-- What a character looks like on a terminal of single bytes (groff_char(7)).
use Prim.Native.Char.{code}
use Rattle.std.specs.Prelude.{ℕ, ◌+◌, ◌-◌, ◌/◌, ◌%◌, List, [], ◌∷◌, ◌++◌, Bool, ◌==◌, ◌||◌, nat_le, nat_lt}
use Rattle.std.specs.Prelude.{if◌then◌else◌, Option, None, Some, codes, slice_get}
use Rattle.preconv_characters.specs.declared.composed.Marked.{Marked}
use Rattle.preconv_characters.specs.declared.target.Target.{Target}
use Rattle.preconv_characters.specs.Numbers.{is_within}
use Rattle.preconv_characters.specs.Targets.{byte_in_force, is_utf8, itself}
use Rattle.preconv_characters.specs.declared.signs.TheConstants.{LATIN, LATIN_ADDITIONAL, SIGNS, WORDS}

-- ---- ASCII

-- An ASCII character that stood as an escape, so that it is read as itself; `=` and `_` alone would be rules
-- of a table. Control characters show nothing.
abbrev pub ascii_like : ℕ → List ℕ
ascii_like b =
    if b == code " " then codes "\\ " else
    if b == code "\"" then codes "\\(dq" else
    if b == code "'" then codes "\\(aq" else
    if b == code "." then codes "\\&." else
    if b == code "=" then codes "\\&=" else
    if b == code "_" then codes "\\&_" else
    if b == code "\\" then codes "\\(rs" else
    if is_within (code "!") (code "~") b then b ∷ [] else []

-- ---- tables

-- what stands in a row of letters, of which the first has a code; a blank is none
abbrev pub no_blank : Option ℕ → Option ℕ
no_blank None = None
no_blank (Some letter) = if letter == code " " then None else Some letter

abbrev pub letter_in : List ℕ → ℕ → ℕ → Option ℕ
letter_in row first c = if nat_lt c first then None else no_blank (slice_get row (c - first))

-- the text after a code in a table
abbrev pub text_in : List (ℕ × List ℕ) → ℕ → Option (List ℕ)
text_in [] c = None
text_in (entry ∷ entries) c = if entry.0 == c then Some entry.1 else text_in entries c

abbrev pub before_nul : List ℕ → List ℕ
before_nul [] = []
before_nul (b ∷ bs) = if b == 0 then [] else b ∷ before_nul bs

unfoldable pub sign_text : ℕ → Option (List ℕ)
sign_text c = text_in SIGNS c

unfoldable pub word_text : ℕ → Option (List ℕ)
word_text c = text_in WORDS c

-- ---- characters

-- a letter of Latin-1 beyond ASCII
abbrev pub is_latin_letter : ℕ → Bool
is_latin_letter c =
    (c == 170) || (c == 181) || (c == 186) || is_within 192 214 c || is_within 216 246 c
    || is_within 248 255 c

-- a mark on the character before it, or a sign without width: it shows nothing
abbrev pub is_mark : ℕ → Bool
is_mark c =
    is_within 768 823 c || is_within 825 879 c || is_within 8203 8207 c || is_within 8234 8238 c
    || is_within 8288 8297 c || is_within 8400 8447 c || is_within 65024 65039 c || (c == 65279)

-- a blank beyond ASCII
abbrev pub is_blank : ℕ → Bool
is_blank c =
    (c == 133) || is_within 8192 8202 c || (c == 8232) || (c == 8233) || (c == 8239) || (c == 8287)
    || (c == 12288)

abbrev pub or_else : Option ℕ → Option ℕ → Option ℕ
or_else (Some x) other = Some x
or_else None other = other

-- a letter without its marks
unfoldable pub plain_letter : ℕ → Option ℕ
plain_letter c = or_else (letter_in LATIN 192 c) (letter_in LATIN_ADDITIONAL 7680 c)

-- a part of a box
abbrev pub box_like : ℕ → Option ℕ
box_like c =
    if (c == 9472) || (c == 9473) || (c == 9552) then Some (code "-") else
    if (c == 9474) || (c == 9475) || (c == 9500) || (c == 9553) then Some (code "|") else
    if c == 9492 then Some (code "`") else
    if is_within 9476 9599 c then Some (code "+") else None

-- ---- what has no likeness is spelled by its code

abbrev pub hex_digit : ℕ → ℕ
hex_digit value = if nat_lt value 10 then code "0" + value else code "A" - 10 + value

abbrev pub code_emitted : ℕ → List ℕ
code_emitted c =
    codes "<U+"
    ++ (if nat_le 1048576 c then hex_digit (c / 1048576 % 16) ∷ [] else [])
    ++ (if nat_le 65536 c then hex_digit (c / 65536 % 16) ∷ [] else [])
    ++ hex_digit (c / 4096 % 16) ∷ hex_digit (c / 256 % 16) ∷ hex_digit (c / 16 % 16)
    ∷ hex_digit (c % 16) ∷ code ">" ∷ []

-- ---- all together

abbrev pub text_or_code : ℕ → Option (List ℕ) → List ℕ
text_or_code c None = code_emitted c
text_or_code c (Some text) = before_nul text

abbrev pub text_or_word : ℕ → Option (List ℕ) → List ℕ
text_or_word c None = text_or_code c (word_text c)
text_or_word c (Some text) = before_nul text

-- a sign, by the tables, which have none from U+3040 to U+FAFF
abbrev pub sign_like : ℕ → List ℕ
sign_like c = if is_within 12352 64255 c then code_emitted c else text_or_word c (sign_text c)

abbrev pub byte_or : Option ℕ → List ℕ → List ℕ
byte_or None other = other
byte_or (Some b) other = b ∷ []

unfoldable pub beyond_like : ℕ → List ℕ
beyond_like c =
    if is_mark c then [] else
    if is_blank c then codes "\\ " else
    if is_within 65281 65374 c then ascii_like (c - 65248) else
    byte_or (plain_letter c) (byte_or (box_like c) (sign_like c))

-- U+200B prints nothing, and is a place to cut a word
abbrev pub cut : ℕ
cut = 8203

-- a character of the table in force is its byte; in UTF-8 each is itself
abbrev pub likeness : Target → ℕ → List ℕ
likeness target c =
    if nat_lt c 128 then ascii_like c else
    if c == cut then codes "\\(zb" else
    if is_utf8 target then itself c else
    byte_or (byte_in_force target c) (beyond_like c)

-- A letter with marks: in UTF-8 what they compose to, and a mark that composes with nothing. A table has what
-- they compose to, or it is the letter, as in ASCII.
abbrev pub mark_itself : ℕ → List ℕ
mark_itself c = if c == 0 then [] else itself c

abbrev pub marked_like : Target → Marked → List ℕ
marked_like target m =
    if is_utf8 target then likeness target m.whole ++ mark_itself m.mark
    else byte_or (byte_in_force target m.whole) (likeness target m.letter)

-- with a stroke through it
abbrev pub struck_like : Target → ℕ → List ℕ
struck_like target c = code "!" ∷ likeness target c
