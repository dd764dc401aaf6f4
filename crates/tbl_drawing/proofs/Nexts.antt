-- What is read of the next one, where some are left.
use Rattle.std.proofs.Common.{◌≡◌, ℕ, suc, ◌+◌, ◌-◌, ◌<◌, ◌||◌, ◌++◌, Option, max, nat_lt, ap, arith, if◌then◌else◌}
use Rattle.tbl_columns.specs.Frames.{is_covered}
use Rattle.tbl_drawing.specs.declared.layout.Layout.{Layout}
use Rattle.tbl_columns.specs.declared.grid.Grid.{Grid}
use Rattle.tbl_columns.specs.Held.{cell_of}
use Rattle.tbl_blocks.specs.declared.parts.Font.{Font}
use Rattle.tbl_blocks.specs.declared.parts.Line.{Line}
use Rattle.tbl_drawing.specs.Drawing.{gaps_if, last_font, part, part_after, parts_text}
use Rattle.tbl_drawing.specs.Heights.{counts, highest, lines_added, lowest}
use Rattle.tbl_drawing.specs.Held.{step, tall}
use Rattle.tbl_drawing.specs.Steps.{line_among, line_beside, some_covered}
use Rattle.tbl_table.specs.Sums.{sum}

next_left : (n end : ℕ) → n < end → end - n ≡ suc (end - (n + 1))
next_left n end h = omega (arith, h)

pub covered_next : (l : Layout) (above below : Option ℕ) (c end : ℕ) → c < end
    → some_covered (end - c) l above below c ≡ (is_covered l.grid above below c || some_covered (end - (c + 1)) l above below (c + 1))
covered_next l above below c end h = ap (λ (m : ℕ). some_covered m l above below c) (next_left c end h)

pub line_next : (l : Layout) (n end f c wanted line : ℕ) → n < end
    → line_among (end - n) l n f c wanted line
    ≡ (if nat_lt wanted (step l n).line then line
    else line_among (end - (n + 1)) l (n + 1) f c wanted (line_beside l (step l n) f c wanted line))
line_next l n end f c wanted line h = ap (λ (m : ℕ). line_among m l n f c wanted line) (next_left n end h)

pub highest_next : (g : Grid) (n end most : ℕ) → n < end
    → highest (end - n) g n most ≡ highest (end - (n + 1)) g (n + 1) (max (counts g n) most)
highest_next g n end most h = ap (λ (m : ℕ). highest m g n most) (next_left n end h)

pub lowest_next : (g : Grid) (n end last : ℕ) → n < end
    → lowest (end - n) g n last ≡ lowest (end - (n + 1)) g (n + 1) (max (cell_of g n).bottom last)
lowest_next g n end last h = ap (λ (m : ℕ). lowest m g n last) (next_left n end h)

pub added_next : (l : Layout) (r end lines : ℕ) → r < end
    → lines_added (end - r) l r lines ≡ lines_added (end - (r + 1)) l (r + 1) (sum lines (tall l r).more)
added_next l r end lines h = ap (λ (m : ℕ). lines_added m l r lines) (next_left r end h)

pub parts_next : (l : Layout) (n end : ℕ) (line : Line) (font : Font) (gap : ℕ) → n < end
    → parts_text (end - n) l n line font gap
    ≡ part_after l n line font gap ++ parts_text (end - (n + 1)) l (n + 1) line (part l n).font (gaps_if l n line gap)
parts_next l n end line font gap h = ap (λ (m : ℕ). parts_text m l n line font gap) (next_left n end h)

pub font_next : (l : Layout) (n end : ℕ) (font : Font) → n < end
    → last_font (end - n) l n font ≡ last_font (end - (n + 1)) l (n + 1) (part l n).font
font_next l n end font h = ap (λ (m : ℕ). last_font m l n font) (next_left n end h)
