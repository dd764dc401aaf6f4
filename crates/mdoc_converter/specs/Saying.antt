-- What is said while bytes are heard, in parts: the bytes of words, and what stands before and after them.
use Rattle.std.specs.Prelude.{ℕ, zero, suc, List, [], ◌∷◌, ◌++◌, Bool, true, if◌then◌else◌, codes}
use Prim.Native.Char.{code}
use Rattle.mdoc_layout.specs.declared.acts.Act.{Act}
use Rattle.mdoc_layout.specs.declared.acts.Act.TheVariants as acts
use Rattle.mdoc_layout.specs.declared.macros.Font.{Font}
use Rattle.mdoc_layout.specs.declared.macros.Font.TheVariants.{Roman, Bold}
use Rattle.mdoc_layout.specs.declared.page.Page.{Page}
use Rattle.mdoc_layout.specs.declared.seen.Seen.{Seen}
use Rattle.mdoc_layout.specs.Laying.{gap, first_in, first_of, before_hyphen, is_joined, was_put, end_word}
use Rattle.mdoc_layout.specs.Laying.{word_end}
use Rattle.mdoc_layout.specs.LayingOut.{lay_out}
use Rattle.mdoc_converter.specs.Reading.{State, once, heard}
use Rattle.mdoc_converter.specs.Scanning.{offer}
use Rattle.mdoc_layout.specs.Texts.{font_begin, font_end}

-- the bytes of a word, or of marks, and what a macro adds before and after them
pub record Part : Type 0 where
  pub before : List ℕ
  pub word : List ℕ
  pub following : List ℕ

abbrev pub part : List ℕ → List ℕ → List ℕ → Part
part before word following = record { before = before; word = word; following = following }

abbrev pub part_word : Bool → Font → Page → Part
part_word joined font p =
    part (gap joined (first_in font p.word) p ++ font_begin font ++ before_hyphen p.word) p.word
    (end_word font (was_put p)).bytes

abbrev pub part_begin : ℕ → Page → Part
part_begin b p = part (gap p.lay.joined b p) (b ∷ []) []

abbrev pub part_flag : Page → Part
part_flag p =
    part (gap (is_joined p) (code "\\") p ++ codes "\\fB\\-" ++ before_hyphen p.word) p.word
    (end_word Bold (was_put p)).bytes

abbrev pub part_release : Page → Part
part_release p =
    part (codes "-" ++ (gap true (first_in Roman p.word) p ++ font_begin Roman ++ before_hyphen p.word))
    p.word (end_word Roman (was_put p)).bytes

-- What an act says: of text lines their bytes, of macros' lines their words and marks. All of another act
-- stands before no word, also names that are held back, and what tables have for a word.
abbrev pub part_of : Act → Page → Part
part_of (acts.Byte b) p = part [] (b ∷ []) []
part_of acts.Hyphen p = part (codes "\\") (codes "-") []
part_of (acts.Begin b) p = part_begin b p
part_of (acts.Word font) p = part_word (is_joined p) font p
part_of (acts.Joined font) p = part_word true font p
part_of acts.Flag p = part_flag p
part_of acts.Release p = part_release p
part_of acts.More p = part (before_hyphen p.word) p.word []
part_of acts.LastMore p = part (before_hyphen p.word) p.word (word_end p ++ font_end p.lay.font)
part_of acts.Marks p = part (gap true (first_of p.marks) p) p.marks []
part_of act p = part (lay_out act p).bytes [] []

-- what one step says
abbrev pub parts_seen : Seen → Page → List Part
parts_seen seen p =
    let q = (lay_out seen.first p).page in
    let r = (lay_out seen.second q).page in
    part_of seen.first p ∷ part_of seen.second q ∷ part_of seen.third r ∷ []

-- what is said until a byte is taken
abbrev pub parts_in : ℕ → ℕ → State → List Part
parts_in zero b s = []
parts_in (suc n) b s =
    let m = offer b s.page in
    parts_seen m.seen m.page ++ (if m.seen.takes then [] else parts_in n b (once b s).state)

unfoldable pub parts_at : ℕ → State → List Part
parts_at b s = parts_in 16 b s

-- what many bytes say, one after another
abbrev pub parts_of : State → List ℕ → List Part
parts_of s [] = []
parts_of s (b ∷ bs) = parts_at b s ++ parts_of (heard b s).state bs

-- what is half read after them
abbrev pub state_after : State → List ℕ → State
state_after s [] = s
state_after s (b ∷ bs) = state_after (heard b s).state bs

-- ---- what goes out of parts, and what of that is words

abbrev pub text_of : List Part → List ℕ
text_of [] = []
text_of (x ∷ xs) = (x.before ++ x.word ++ x.following) ++ text_of xs

abbrev pub words_of : List Part → List ℕ
words_of [] = []
words_of (x ∷ xs) = x.word ++ words_of xs
