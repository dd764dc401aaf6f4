-- The parts of a block's words: a text in one font, its cells, and what stands before it (tbl(1), TEXT BLOCKS; Lesk, "Tbl", text blocks).
use Rattle.std.specs.Prelude.{ℕ, ◌+◌, ◌-◌, ◌/◌, ◌%◌, min, Bool, true, false, ◌==◌, ◌||◌, nat_le, nat_lt, if◌then◌else◌}
use Prim.Native.Char.{code}
use Rattle.tbl_blocks.specs.declared.parts.Font.{Font}
use Rattle.tbl_blocks.specs.declared.parts.Font.TheVariants as fonts
use Rattle.tbl_blocks.specs.declared.parts.Join.{Join}
use Rattle.tbl_blocks.specs.declared.parts.Join.TheVariants as joins
use Rattle.tbl_blocks.specs.declared.parts.Line.{Line}
use Rattle.tbl_blocks.specs.declared.parts.Part.{Part}

-- as great as numbers are
abbrev pub sum : ℕ → ℕ → ℕ
sum a b = min (a + b) 18446744073709551615

-- I or 2 is italic, B or 3 bold, another roman
abbrev pub font_of : ℕ → Font
font_of b =
    if (b == code "I") || (b == code "2") then fonts.Italic
    else if (b == code "B") || (b == code "3") then fonts.Bold
    else fonts.Roman

abbrev pub letter_of : Font → ℕ
letter_of fonts.Roman = code "R"
letter_of fonts.Italic = code "I"
letter_of fonts.Bold = code "B"

-- blanks within a line
abbrev pub blanks : Join → ℕ
blanks (joins.Gap n) = n
blanks (joins.Fixed n) = n
blanks join = 0

-- a line may end before the part, or has ended
abbrev pub may_end : Join → Bool
may_end joins.Glued = false
may_end (joins.Fixed n) = false
may_end join = true

abbrev pub is_gap : Join → Bool
is_gap (joins.Gap n) = true
is_gap join = false

-- a hyphen is printed where a line ends before the part
abbrev pub is_point : Join → Bool
is_point joins.Point = true
is_point join = false

abbrev pub is_line : Join → Bool
is_line (joins.Line space indent) = true
is_line join = false

-- what stands for one that is not there
abbrev pub no_part : Part
no_part = record { start = 0; «end» = 0; cells = 0; font = fonts.Roman; join = joins.Glued; indent = 0; bracketed = false }

-- Spreading (CSTR 54 4.1, `.ad`): the blanks that a full line lacks go to its gaps, as many to each; the odd ones to the first gaps, or the last.
abbrev pub is_wider : ℕ → Line → Bool
is_wider gap l = if l.left then nat_lt gap (l.lack % l.gaps) else nat_le (l.gaps - l.lack % l.gaps) gap

abbrev pub gap_more : ℕ → Line → ℕ
gap_more gap l =
    if nat_le l.gaps gap then 0 else if is_wider gap l then sum (l.lack / l.gaps) 1 else l.lack / l.gaps
