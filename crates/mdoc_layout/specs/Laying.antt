-- Words with fonts and joints are laid out as text.
use Rattle.std.specs.Prelude.{ℕ, ◌-◌, List, [], ◌∷◌, ◌++◌, length, Bool, true, false, not, ◌==◌, ◌&&◌, ◌||◌, nat_lt, if◌then◌else◌, slice_index, codes, Option, None, Some}
use Prim.Native.Char.{code}
use Rattle.mdoc_layout.specs.declared.acts.Act.{Act}
use Rattle.mdoc_layout.specs.declared.acts.Act.TheVariants as acts
use Rattle.mdoc_layout.specs.declared.macros.Font.{Font}
use Rattle.mdoc_layout.specs.declared.macros.Font.TheVariants.{Roman, Bold, Italic}
use Rattle.mdoc_layout.specs.declared.page.At.{At}
use Rattle.mdoc_layout.specs.declared.page.At.TheVariants.{Start, Middle, Ended}
use Rattle.mdoc_layout.specs.declared.page.Lay.{Lay}
use Rattle.mdoc_layout.specs.declared.page.Page.{Page}
use Rattle.mdoc_layout.specs.declared.libraries.TheConstants.{LIBRARIES}
use Rattle.mdoc_layout.specs.declared.names.TheConstants.{STANDARDS, SYSTEMS}
use Rattle.mdoc_layout.specs.Lookup.{before_nul, named_in}
use Rattle.mdoc_layout.specs.Texts.{closing, font_begin, font_end}

-- a page then, and what goes out
pub record Laid : Type 0 where
  pub page : Page
  pub bytes : List ℕ

abbrev pub laid : Page → List ℕ → Laid
laid p bytes = record { page = p; bytes = bytes }

-- these bytes, and then what comes
abbrev pub preceded : List ℕ → Laid → Laid
preceded bytes l = record { page = l.page; bytes = bytes ++ l.bytes }

-- first the one, then the other
abbrev pub then_laid : Laid → (Page → Laid) → Laid
then_laid l next = preceded l.bytes (next l.page)

-- and then these bytes
abbrev pub with_end : List ℕ → Laid → Laid
with_end bytes l = record { page = l.page; bytes = l.bytes ++ bytes }

-- how text is laid out
abbrev pub with_lay : Lay → Page → Page
with_lay l p = record p { lay = l }

-- ---- joints: what stands between what went out and a text

abbrev pub is_control : ℕ → Bool
is_control b = (b == code ".") || (b == code "'")

-- at the beginning of a line text must not be a control line
abbrev pub guard : ℕ → List ℕ
guard first = if is_control first then codes "\\&" else []

abbrev pub line_guard : ℕ → List ℕ
line_guard first = if is_control first then codes "\n\\&" else codes "\n"

-- no line is broken after a hyphen that begins a word
abbrev pub before_hyphen : List ℕ → List ℕ
before_hyphen [] = []
before_hyphen (b ∷ bs) = if b == code "-" then codes "\\" else []

abbrev pub first_of : List ℕ → ℕ
first_of [] = code " "
first_of (b ∷ bs) = b

abbrev pub first_in : Font → List ℕ → ℕ
first_in Roman word = first_of word
first_in Bold word = code "\\"
first_in Italic word = code "\\"

abbrev pub gap_at : Lay → At → Bool → ℕ → List ℕ
gap_at l Start joined first = guard first
gap_at l Middle joined first = if joined then [] else if l.kept then codes "\\~" else codes " "
gap_at l Ended joined first = if joined then [] else if l.tag then codes " " else line_guard first

abbrev pub gap : Bool → ℕ → Page → List ℕ
gap joined first p = gap_at p.lay p.lay.at joined first

abbrev pub was_put : Page → Page
was_put p =
    with_lay (record p.lay { at = Middle; joined = not p.lay.spaced; quiet = false; bare = false }) p

abbrev pub is_middle : At → Bool
is_middle Middle = true
is_middle at = false

-- what a macro says next joins what is before
abbrev pub is_joined : Page → Bool
is_joined p = p.lay.joined || (not p.lay.spaced && is_middle p.lay.at)

-- ---- words

abbrev pub put : Bool → List ℕ → Page → Laid
put joined text p = laid (was_put p) (gap joined (first_of text) p ++ text)

abbrev pub is_stop : ℕ → Bool
is_stop b = (b == code ".") || (b == code "?") || (b == code "!")

-- what may stand between the end of a sentence and the end of its line (groff manual, "Sentences")
abbrev pub is_transparent : ℕ → Bool
is_transparent b =
    (b == code ")") || (b == code "]") || (b == code "\"") || (b == code "'") || (b == code "*")

-- a word that would end a sentence at the end of its line
abbrev pub ends_sentence : List ℕ → Bool
ends_sentence word =
    (nat_lt 0 (length word) && is_stop (slice_index word (length word - 1)))
    || (nat_lt 1 (length word) && is_transparent (slice_index word (length word - 1))
    && is_stop (slice_index word (length word - 2)))

-- a word of a macro ends no sentence
abbrev pub word_end : Page → List ℕ
word_end p = if ends_sentence p.word then codes "\\&" else []

-- the font of a word ends, unless more of the word comes
abbrev pub end_word : Font → Page → Laid
end_word font p =
    if p.lay.partial then laid (with_lay (record p.lay { partial = false; font = font }) p) []
    else laid p (word_end p ++ font_end font)

abbrev pub put_word : Bool → Font → Page → Laid
put_word joined font p =
    preceded (gap joined (first_in font p.word) p ++ font_begin font ++ before_hyphen p.word ++ p.word)
    (end_word font (was_put p))

abbrev pub put_more : Page → Laid
put_more p = laid (was_put p) (before_hyphen p.word ++ p.word)

abbrev pub put_last_more : Page → Laid
put_last_more p =
    laid (was_put (with_lay (record p.lay { font = Roman }) p)) (before_hyphen p.word ++ p.word
    ++ word_end p ++ font_end p.lay.font)

abbrev pub put_flag : Page → Laid
put_flag p =
    preceded (gap (is_joined p) (code "\\") p ++ codes "\\fB\\-" ++ before_hyphen p.word ++ p.word)
    (end_word Bold (was_put p))

-- a name in bold
abbrev pub put_name : List ℕ → Page → Laid
put_name name p = laid (was_put p) (gap (is_joined p) (code "\\") p ++ codes "\\fB" ++ name ++ codes "\\fR")

abbrev pub holding_back : List ℕ → Page → Page
holding_back name p = record p { held = name }

abbrev pub and_hold : List ℕ → Laid → Laid
and_hold name l = laid (holding_back name l.page) l.bytes

-- the name that was held back stands after a comma, and the word is held back
abbrev pub put_held : Page → Laid
put_held p = and_hold p.word (then_laid (put true (codes ",") p) (λ q. put_name p.held q))

abbrev pub comma_if : Bool → Page → Laid
comma_if many p = if many then put true (codes ",") p else laid p []

abbrev pub put_and : Page → Laid
put_and p = put (is_joined p) (codes "and") p

abbrev pub put_last_held : Bool → Page → Laid
put_last_held many p =
    and_hold [] (then_laid (then_laid (comma_if many p) (λ q. put_and q)) (λ q. put_name p.held q))

abbrev pub without_marks : Page → Page
without_marks p = record p { marks = [] }

abbrev pub put_marks : Page → Laid
put_marks p = laid (without_marks (was_put p)) (gap true (first_of p.marks) p ++ p.marks)

-- a version of AT&T UNIX that no table has stands after that name
abbrev pub put_version : Option (List ℕ) → Page → Laid
put_version None p = then_laid (put (is_joined p) (codes "AT&T UNIX ") p) (λ q. put_word true Roman q)
put_version (Some text) p = put (is_joined p) (before_nul text) p

-- what closes these enclosures, the last of them first
abbrev pub put_closing : List ℕ → Page → Laid
put_closing [] p = laid p []
put_closing (c ∷ cs) p = then_laid (put_closing cs p) (λ q. put true (closing c) q)

-- what closes those of the line: they are open no more
abbrev pub put_closers : Page → Laid
put_closers p = put_closing p.closers (record p { closers = [] })

-- a standard that no table has prints nothing
abbrev pub put_standard : Option (List ℕ) → Page → Laid
put_standard None p = laid p []
put_standard (Some text) p = put (is_joined p) (before_nul text) p

abbrev pub put_other_library : Page → Laid
put_other_library p =
    with_end (codes "\\(rq") (then_laid (put (is_joined p) (codes "library \\(lq") p)
    (λ q. put_word true Roman q))

abbrev pub put_library : Option (List ℕ) → Page → Laid
put_library None p = put_other_library p
put_library (Some text) p = put (is_joined p) (before_nul text) p

abbrev pub put_release : Page → Laid
put_release p = preceded (codes "-") (put_word true Roman p)

-- the head of an item of `-diag`: blanks stand after it, which what comes next joins
abbrev pub put_head_end : Page → Laid
put_head_end p =
    let l = put true (codes "\\~\\~") p in
    laid (with_lay (record l.page.lay { joined = true; bare = true }) l.page) l.bytes

-- ---- a line of the input ends: a joint does, too, where lines stay as they are

abbrev pub end_line : Page → Page
end_line p =
    if is_middle p.lay.at
    then with_lay (record p.lay { at = Ended; joined = p.lay.joined && not p.lay.literal }) p else p

-- ---- names of standards, libraries and versions

unfoldable pub standard_named : List ℕ → Option (List ℕ)
standard_named word = named_in STANDARDS word

unfoldable pub library_named : List ℕ → Option (List ℕ)
library_named word = named_in LIBRARIES word

unfoldable pub version_named : List ℕ → Option (List ℕ)
version_named word = named_in SYSTEMS word

-- ---- by what is said

abbrev pub lay_word : Act → Page → Laid
lay_word (acts.Word font) p = put_word (is_joined p) font p
lay_word (acts.Joined font) p = put_word true font p
lay_word acts.Flag p = put_flag p
lay_word acts.More p = put_more p
lay_word acts.LastMore p = put_last_more p
lay_word acts.Own p = put_name p.name p
lay_word acts.Held p = put_held p
lay_word (acts.LastHeld many) p = put_last_held many p
lay_word acts.Marks p = put_marks p
lay_word acts.Closers p = put_closers p
lay_word acts.Standard p = put_standard (standard_named p.word) p
lay_word acts.Library p = put_library (library_named p.word) p
lay_word acts.Att p = put_version (version_named p.word) p
lay_word acts.Release p = put_release p
lay_word acts.HeadEnds p = put_head_end p
lay_word act p = laid p []
