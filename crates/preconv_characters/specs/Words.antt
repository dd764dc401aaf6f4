-- The words of a font macro's line. No more than nine are taken, so the ninth and all after it are one word
-- in quotes; where two fonts take turns, the words after the ninth follow one another with their fonts.
use Prim.Native.Char.{code}
use Rattle.std.specs.Prelude.{ℕ, ◌+◌, Bool, true, false, not, ◌==◌, ◌&&◌, nat_le, if◌then◌else◌}
use Rattle.preconv_characters.specs.declared.said.Said.{Said}
use Rattle.preconv_characters.specs.declared.said.Said.TheVariants.{Nothing, Byte, Escape, Quotes, Font}
use Rattle.preconv_characters.specs.declared.words.Words.{Words}
use Rattle.preconv_characters.specs.declared.words.Emitted.{Emitted}
use Rattle.preconv_characters.specs.declared.words.WordFont.{WordFont}
use Rattle.preconv_characters.specs.declared.words.Fonts.{Fonts}
use Rattle.preconv_characters.specs.declared.words.Fonts.TheVariants.{One, Same, Turn, Tag}
use Rattle.preconv_characters.specs.declared.words.Place.{Place}
use Rattle.preconv_characters.specs.declared.words.Place.TheVariants.{Between, Begun, Opened, Inside, Quoted}
use Rattle.preconv_characters.specs.declared.words.Place.TheVariants.{Closing}
use Rattle.preconv_characters.specs.declared.words.Class.{Class}
use Rattle.preconv_characters.specs.declared.words.Class.TheVariants.{Space, Quote, Other}

abbrev pub class_of : ℕ → Class
class_of b = if b == code " " then Space else if b == code "\"" then Quote else Other

-- no word has begun
abbrev pub first_words : Fonts → Words
first_words fonts = record { fonts = fonts; count = 0; second = true; place = Between }

abbrev pub is_ninth : Words → Bool
is_ninth w = nat_le 9 w.count

abbrev pub hyphens_by : Fonts → ℕ → Bool
hyphens_by Tag count = count == 1
hyphens_by fonts count = true

-- the font that the macro sets for the word, by its letter
abbrev pub face_by : Fonts → Bool → ℕ
face_by (Same a) second = a
face_by (Turn a b) second = if second then b else a
face_by fonts second = code "R"

abbrev pub word_face : Words → ℕ
word_face w = face_by w.fonts w.second

-- An escape sets a font for its word and those after it, but where two fonts take turns, and each word has
-- its own. The ninth word and those after it have one number, so that nothing is known of these.
abbrev pub no_font : WordFont
no_font = record { word = 0; letter = code "R"; previous = code "R" }

abbrev pub holds_by : Fonts → ℕ → Words → Bool
holds_by (Turn a b) word w = (word == w.count) && not (is_ninth w)
holds_by fonts word w = not (word == 0)

abbrev pub has_set : WordFont → Words → Bool
has_set set w = holds_by w.fonts set.word w

abbrev pub word_font : WordFont → Words → ℕ
word_font set w = if has_set set w then set.letter else word_face w

abbrev pub previous_face : WordFont → Words → ℕ
previous_face set w = if has_set set w then set.previous else word_face w

abbrev pub with_face : ℕ → WordFont → Words → WordFont
with_face letter set w = record {
  word = w.count;
  letter = if letter == code "P" then previous_face set w else letter;
  previous = word_font set w;
}

-- a hyphen here is one of text: where a tag or an address stands, the words after it are numbers
abbrev pub has_hyphens : Words → Bool
has_hyphens w = hyphens_by w.fonts w.count

abbrev pub begins_at : Place → Bool
begins_at Between = true
begins_at Begun = true
begins_at Opened = true
begins_at Closing = true
begins_at place = false

-- an escape that comes begins a word
abbrev pub begins_word : Words → Bool
begins_word w = begins_at w.place

-- a character in a word goes out as it is
abbrev pub goes_on_at : Place → Class → Bool
goes_on_at Inside Other = true
goes_on_at Quoted Other = true
goes_on_at Quoted Space = true
goes_on_at place class = false

abbrev pub goes_on_with : Class → Words → Bool
goes_on_with class w = goes_on_at w.place class

-- up to the eighth word a space goes out as it is
abbrev pub spaced_at : Place → Bool
spaced_at Between = true
spaced_at Inside = true
spaced_at Quoted = true
spaced_at place = false

abbrev pub goes_on_with_space : Words → Bool
goes_on_with_space w = if is_ninth w then goes_on_with Space w else spaced_at w.place

-- an ASCII character goes out as it is and is taken at once
abbrev pub is_as_is : ℕ → Words → Bool
is_as_is b w =
    if b == code "\n" then not (is_ninth w) else
    if b == code " " then goes_on_with_space w else not (b == code "-") && goes_on_with (class_of b) w

abbrev pub words_at : Place → Words → Words
words_at place w = record { fonts = w.fonts; count = w.count; second = w.second; place = place }

-- a space ends a word
abbrev pub after_space : Place → Place
after_space Inside = Between
after_space place = place

abbrev pub taken_as_is : ℕ → Words → Words
taken_as_is b w = if b == code " " then words_at (after_space w.place) w else w

abbrev pub emitted : Place → Said → Bool → Words → Emitted
emitted place said takes w = record { words = words_at place w; said = said; takes = takes }

-- ---- a word begins

abbrev pub turned : Fonts → Bool → Said
turned One second = Nothing
turned (Same a) second = Nothing
turned Tag second = Nothing
turned (Turn a b) second = Font (if second then a else b)

-- after the ninth word the font changes
abbrev pub font_said : Words → Said
font_said w = turned w.fonts w.second

-- before the ninth a quote goes out
abbrev pub begun : Words → Emitted
begun w =
    if nat_le 9 w.count
    then record {
      words = record { fonts = w.fonts; count = 9; second = not w.second; place = Begun };
      said = font_said w;
      takes = false;
    }
    else record {
      words = record { fonts = w.fonts; count = w.count + 1; second = not w.second; place = Begun };
      said = if w.count == 8 then Byte (code "\"") else Nothing;
      takes = false;
    }

-- in a word up to the eighth that begins
abbrev pub inside : Words → Words
inside w = record { fonts = w.fonts; count = w.count + 1; second = not w.second; place = Inside }

-- ---- what a character says

abbrev pub blank_by : Fonts → Bool → Said → Said
blank_by (Turn a b) true said = Nothing
blank_by fonts ninth said = said

abbrev pub blank_said : Said → Words → Said
blank_said said w = blank_by w.fonts (is_ninth w) said

abbrev pub quoted_said : Said → Said → Words → Said
quoted_said said ninth w = if is_ninth w then ninth else said

-- what stands right after a last quote is a word of its own
abbrev pub offered_closing : Class → Said → Words → Emitted
offered_closing Quote said w = emitted Quoted (quoted_said said Quotes w) true w
offered_closing Space said w = emitted Between (blank_said said w) true w
offered_closing Other said w = emitted Between (blank_said (Byte (code " ")) w) false w

-- After a quote with which a word begins. Blanks before the first word of a filled line are dropped: after
-- the first quote they are printed, as are those between words, and so are those that follow a first word
-- which is empty.
abbrev pub after_quote : Words → Place
after_quote w = if w.count == 1 then Opened else Quoted

-- by where it comes, and what it is
abbrev pub offered_at : Place → Class → Said → Words → Emitted
offered_at Between Space said w = emitted Between (blank_said said w) true w
offered_at Between class said w = begun w
offered_at Begun Quote said w = emitted (after_quote w) (quoted_said said Nothing w) true w
offered_at Begun class said w = emitted Inside Nothing false w
offered_at Inside Space said w = emitted Between (blank_said said w) true w
offered_at Inside Quote said w = emitted Inside (quoted_said said Quotes w) true w
offered_at Inside Other said w = emitted Inside said true w
offered_at Opened Other said w = emitted Quoted Nothing false w
offered_at Opened class said w = emitted Quoted (Escape (code "&")) false w
offered_at Quoted Quote said w = emitted Closing (quoted_said said Nothing w) true w
offered_at Quoted class said w = emitted Quoted said true w
offered_at Closing class said w = offered_closing class said w

abbrev pub offered_words : Class → Said → Words → Emitted
offered_words class said w = offered_at w.place class said w
