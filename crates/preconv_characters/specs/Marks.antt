-- What a character is for what stands after it (groff(7), `.cflags`), and how far to the left a text line
-- hangs.
use Prim.Native.Char.{code}
use Rattle.std.specs.Prelude.{ℕ, List, [], ◌∷◌, Bool, true, false, ◌==◌, ◌&&◌, ◌||◌, nat_le, if◌then◌else◌}
use Rattle.preconv_characters.specs.declared.marks.Before.{Before}
use Rattle.preconv_characters.specs.declared.marks.Before.TheVariants.{Character, Argument}
use Rattle.preconv_characters.specs.declared.marks.Mark.{Mark}
use Rattle.preconv_characters.specs.declared.marks.Mark.TheVariants.{Letter, Opening, Quote, Stop, Closing}
use Rattle.preconv_characters.specs.declared.marks.Mark.TheVariants.{Closed, Other}
use Rattle.preconv_characters.specs.Numbers.{is_within}
use Rattle.preconv_characters.specs.Likeness.{is_latin_letter}

-- ---- letters

abbrev pub is_ascii_letter : ℕ → Bool
is_ascii_letter b = is_within (code "A") (code "Z") b || is_within (code "a") (code "z") b

-- beyond Latin-1 by the blocks of characters: those up to U+1FFF and from U+2C00 on are scripts
abbrev pub is_letter : ℕ → Bool
is_letter c = is_ascii_letter c || is_within 256 8191 c || nat_le 11264 c || is_latin_letter c

-- ---- what stands before the next character

-- after an opening bracket or a quote a word begins: ( [ < " and the opening quotes of Unicode
abbrev pub is_opening : ℕ → Bool
is_opening c = (c == code "(") || (c == code "[") || (c == code "<") || (c == 8216) || (c == 8220)

-- a sentence ends with one of these at a line's end, or with one of the next after it
abbrev pub is_stop : ℕ → Bool
is_stop c = (c == code ".") || (c == code "?") || (c == code "!")

abbrev pub is_closing : ℕ → Bool
is_closing c =
    (c == code ")") || (c == code "]") || (c == code "'") || (c == code "*") || (c == 8217) || (c == 8221)

abbrev pub mark_by : Bool → ℕ → Mark
mark_by letter c =
    if letter then Letter else
    if c == code "\"" then Quote else
    if is_opening c then Opening else
    if is_stop c then Stop else
    if is_closing c then Closing else Other

-- what an ASCII character is for what stands after it, and another
abbrev pub mark_of : ℕ → Mark
mark_of b = mark_by (is_ascii_letter b) b

abbrev pub wide_mark : ℕ → Mark
wide_mark c = mark_by (is_letter c) c

-- a sentence ends there, or goes on to end: with a stop, or what closes after one
abbrev pub has_ended : Mark → Bool
has_ended Stop = true
has_ended Closed = true
has_ended mark = false

abbrev pub is_closer : Mark → Bool
is_closer Quote = true
is_closer Closing = true
is_closer mark = false

abbrev pub mark_after : Mark → Mark → Mark
mark_after before mark = if has_ended before && is_closer mark then Closed else mark

abbrev pub followed : Mark → Before → Before
followed mark Argument = Argument
followed mark (Character before) = Character (mark_after before mark)

-- ---- numbers of cells

abbrev pub is_digit : ℕ → Bool
is_digit b = is_within (code "0") (code "9") b

-- so many cells to the left, by one digit or two
abbrev pub is_hang : List ℕ → Bool
is_hang [] = false
is_hang (sign ∷ []) = false
is_hang (sign ∷ digit ∷ []) = (sign == code "-") && is_digit digit
is_hang (sign ∷ tens ∷ ones ∷ []) = (sign == code "-") && is_digit tens && is_digit ones
is_hang (sign ∷ tens ∷ ones ∷ more ∷ rest) = false
