-- The laws of a block's words and lines, for all texts, parts and widths.
use Rattle.std.specs.Prelude.{◌≡◌, ℕ, ◌+◌, ◌<◌, ◌≤◌, Bool, true, false, nat_lt, List, [], ◌∷◌, length, get_or, max, ◌⊎◌, if◌then◌else◌, ◌-◌, ◌==◌, ◌++◌, slice_range, ◌*◌}
use Prim.Native.Char.{code}
use Rattle.tbl_blocks.specs.declared.blocks.Blocks.{Blocks}
use Rattle.tbl_blocks.specs.declared.filling.Measure.{Measure}
use Rattle.tbl_blocks.specs.declared.parts.Font.{Font}
use Rattle.tbl_blocks.specs.declared.parts.Known.{Known}
use Rattle.tbl_blocks.specs.declared.parts.Line.{Line}
use Rattle.tbl_blocks.specs.declared.parts.Part.{Part}
use Rattle.nr_settings.specs.Widths.{width_of as width_by_w}
use Rattle.tbl_blocks.specs.Arguments.{is_blank}
use Rattle.tbl_blocks.specs.Blocks.{block_read, field_read}
use Rattle.tbl_blocks.specs.Extents.{extent_of}
use Rattle.tbl_blocks.specs.Filling.{lines_of, longest}
use Rattle.tbl_blocks.specs.Parts.{is_point, may_end, no_part, sum}
use Rattle.tbl_blocks.specs.Words.{words_read}

-- ---- each part stands on one line, and in order

-- lines go on where those before them end, from the first part to the last, and each has a part
abbrev pub Follow : ℕ → ℕ → List Line → Type 0
Follow first end [] = first ≡ end
Follow first end (l ∷ ls) = (l.first ≡ first) × (l.first < l.«end») × Follow l.«end» end ls

abbrev pub PartsStandOnce : Type 0
PartsStandOnce = (m : Measure) (n : ℕ) (ps : List Part) → Follow n (n + length ps) (lines_of n m ps)

-- ---- a line fits, or it is one run

-- no line may end within it; parts have numbers from one on
abbrev pub IsRun : ℕ → List Part → Line → Type 0
IsRun n ps l = (i : ℕ) → l.first < n + i → n + i < l.«end» → may_end (get_or ps i no_part).join ≡ false

abbrev pub Fits : ℕ → ℕ → List Part → Line → Type 0
Fits width n ps l = (l.cells ≤ width) ⊎ IsRun n ps l

abbrev pub AllFit : ℕ → ℕ → List Part → List Line → Type 0
AllFit width n ps [] = Unit {0}
AllFit width n ps (l ∷ ls) = Fits width n ps l × AllFit width n ps ls

abbrev pub LinesFit : Type 0
LinesFit = (m : Measure) (n : ℕ) (ps : List Part) → AllFit m.width n ps (lines_of n m ps)

-- ---- lines fit in what is no narrower than the longest run; where a text has no indents, than the longest word

-- the widest of these, where they are spread
abbrev pub spread_width : List Line → ℕ
spread_width [] = 0
spread_width (l ∷ ls) = max (sum l.cells l.lack) (spread_width ls)

abbrev pub LongestFits : Type 0
LongestFits =
    (m : Measure) (n : ℕ) (ps : List Part) → longest false ps ≤ m.width → spread_width (lines_of n m ps) ≤ m.width

abbrev pub HasNoIndents : List Part → Type 0
HasNoIndents [] = Unit {0}
HasNoIndents (p ∷ ps) = (p.indent ≡ 0) × HasNoIndents ps

abbrev pub WordsFit : Type 0
WordsFit =
    (m : Measure) (n : ℕ) (ps : List Part) → HasNoIndents ps → longest true ps ≤ m.width
    → spread_width (lines_of n m ps) ≤ m.width

-- ---- what is read is added to the parts of other texts; those of a field are not indented

abbrev pub BlocksAreAdded : Type 0
BlocksAreAdded =
    (text : List ℕ) (place : ℕ) (f : Font) (spread : Bool) (s : Blocks)
    → (new : List Part) × ((block_read text place f spread s).parts.items ≡ s.parts.items ++ new)

abbrev pub FieldsAreAdded : Type 0
FieldsAreAdded =
    (text : List ℕ) (place : ℕ) (f : Font) (s : Blocks)
    → (new : List Part) × (((field_read text place f s).parts.items ≡ s.parts.items ++ new) × HasNoIndents new)

-- ---- lines are the same in a lesser width in which each of them fits

abbrev pub width_of : List Line → ℕ
width_of [] = 0
width_of (l ∷ ls) = max l.cells (width_of ls)

-- a word is not cut with a hyphen before what has no cell
abbrev pub is_cut_before_cells : Part → Bool
is_cut_before_cells p = if is_point p.join then nat_lt 0 p.cells else true

abbrev pub CutBeforeCells : List Part → Type 0
CutBeforeCells [] = Unit {0}
CutBeforeCells (p ∷ ps) = (is_cut_before_cells p ≡ true) × CutBeforeCells ps

abbrev pub ragged : ℕ → Measure
ragged width = record { width = width; spread = false }

abbrev pub LinesStay : Type 0
LinesStay =
    (narrow wide n : ℕ) (ps : List Part) → CutBeforeCells ps → narrow ≤ wide
    → width_of (lines_of n (ragged wide) ps) ≤ narrow
    → lines_of n (ragged narrow) ps ≡ lines_of n (ragged wide) ps

-- ---- each word of a text is read once, and in order

-- no byte is a backslash
abbrev pub IsPlain : List ℕ → Type 0
IsPlain [] = Unit {0}
IsPlain (b ∷ bs) = ((b == code "\\") ≡ false) × IsPlain bs

-- the bytes of parts, where the text begins at a place
abbrev pub text_of_parts : ℕ → List ℕ → List Part → List ℕ
text_of_parts place text [] = []
text_of_parts place text (p ∷ ps) = slice_range text (p.start - place) (p.«end» - place) ++ text_of_parts place text ps

abbrev pub without_blanks : List ℕ → List ℕ
without_blanks [] = []
without_blanks (b ∷ bs) = if is_blank b then without_blanks bs else b ∷ without_blanks bs

abbrev pub WordsAreRead : Type 0
WordsAreRead =
    (text : List ℕ) (place : ℕ) (s : Blocks) → IsPlain text → place + length text < 18446744073709551616
    → length s.parts.items + length text ≤ s.parts.capacity
    → (new : List Part)
    × (((words_read text place s).parts.items ≡ s.parts.items ++ new) × (text_of_parts place text new ≡ without_blanks text))

-- ---- one definition of width: that of `\w`

-- no byte is an asterisk: `\w` reads texts in which strings are interpolated
abbrev pub HasNoStrings : List ℕ → Type 0
HasNoStrings [] = Unit {0}
HasNoStrings (b ∷ bs) = ((b == code "*") ≡ false) × HasNoStrings bs

abbrev pub WidthIsThatOfW : Type 0
WidthIsThatOfW =
    (v : ℕ) (text : List ℕ) (strings : List Known) → HasNoStrings text → 2 * length text < 18446744073709551616
    → (extent_of text strings).sure ≡ true → width_by_w true v text ≡ 24 * (extent_of text strings).cells
