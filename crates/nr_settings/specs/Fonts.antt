-- Fonts and underlining (CSTR 54, font and character size control; underlining).
use Prim.Native.Char.{code}
use Rattle.std.specs.Prelude.{ℕ, ◌-◌, Bool, ◌||◌, List, [], ◌∷◌, ◌==◌, Option, Some, None, if◌then◌else◌}
use Rattle.nr_vectors.specs.declared.cell.Cell.{Cell}
use Rattle.nr_vectors.specs.declared.cell.Look.{Look}
use Rattle.nr_vectors.specs.declared.cell.Look.TheVariants as looks
use Rattle.nr_settings.specs.Arguments.{name_in}
use Rattle.nr_settings.specs.Numbers.{counted_lines}
use Rattle.nr_settings.specs.declared.fonts.Font.{Font}
use Rattle.nr_settings.specs.declared.fonts.Font.TheVariants.{Roman, Italic, Bold}
use Rattle.nr_settings.specs.declared.fonts.Fonts.{Fonts}

-- the font that a letter or digit names: R or 1, I or 2, B or 3; P the previous one
abbrev pub font_by : Font → ℕ → Option Font
font_by previous c =
    if c == code "R" || c == code "1" then Some Roman
    else if c == code "I" || c == code "2" then Some Italic
    else if c == code "B" || c == code "3" then Some Bold
    else if c == code "P" then Some previous
    else None

-- the font of a name; the empty one names the previous font
abbrev pub font_named : Font → List ℕ → Option Font
font_named previous [] = Some previous
font_named previous (c ∷ []) = font_by previous c
font_named previous (c ∷ d ∷ more) = None

-- Each setting makes the font before it the previous one. Another name changes nothing.
abbrev pub with_font : Option Font → Fonts → Fonts
with_font None s = s
with_font (Some font) s = record s { font = font; previous = s.font }

abbrev pub with_named : List ℕ → Fonts → Fonts
with_named name s = with_font (font_named s.previous name) s

-- `.ft F`: the font; without F the previous one
abbrev pub or_empty : Option (List ℕ) → List ℕ
or_empty None = []
or_empty (Some name) = name

abbrev pub ft : List ℕ → Bool → Fonts → Fonts
ft line long s = with_named (or_empty (name_in long line)) s

-- `.ul N`: the next N text lines are underlined
abbrev pub ul : List ℕ → ℕ → Fonts → Fonts
ul line v s = record s { underlined = counted_lines line v }

-- one text line is counted
abbrev pub after_underlined_line : Fonts → Fonts
after_underlined_line s = record s { underlined = s.underlined - 1 }

-- a terminal shows italics by underlining
abbrev pub look_of : Font → Look
look_of Roman = looks.Plain
look_of Italic = looks.Under
look_of Bold = looks.Bold

-- how what is read now looks: on a line of `.ul` it is underlined in any font
abbrev pub present_look : Fonts → Look
present_look s = if s.underlined == 0 then look_of s.font else looks.Under

abbrev pub cell_of : ℕ → Fonts → Cell
cell_of byte s = record { byte = byte; look = present_look s }

abbrev pub first_fonts : Fonts
first_fonts = record { font = Roman; previous = Roman; underlined = 0 }
