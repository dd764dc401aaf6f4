-- Setting a line: where its cells stand in the row. (CSTR 54, sections 4.1 and 4.2; on indents section 6.)
use Prim.Native.Char.{code}
use Rattle.std.specs.Prelude.{ℕ, ◌+◌, ◌-◌, ◌/◌, Bool, false, ◌&&◌, nat_lt, if◌then◌else◌, List, ◌++◌, length, take, drop, replicate}
use Rattle.nr_vectors.specs.Cell.{blank, trimmed}
use Rattle.nr_vectors.specs.declared.cell.Cell.{Cell}
use Rattle.nr_vectors.specs.declared.cell.Look.TheVariants.{Plain}
use Rattle.nr_settings.specs.declared.indents.Margins.{Margins}
use Rattle.nr_settings.specs.declared.filling.Align.{Align}
use Rattle.nr_settings.specs.declared.filling.Align.TheVariants.{Left, Spread, Right, Centre}
use Rattle.nr_fill.specs.declared.setting.Extra.{Extra}
use Rattle.nr_fill.specs.declared.setting.Setting.{Setting}
use Rattle.nr_fill.specs.Piece.{Collected, begins_line}
use Rattle.nr_fill.specs.Cutting.{prefix_width, hyphen_before, cut}
use Rattle.nr_fill.specs.Spreading.{gaps, no_extra, shared, other_turn, cells_in_line}

-- the hyphen that a cut at a soft point prints
abbrev pub hyphen : Cell
hyphen = record { byte = code "-"; look = Plain }

abbrev pub hyphens : ℕ → List Cell
hyphens n = replicate n hyphen

-- a line is spread where there is something to spread and a gap to spread it over
abbrev pub is_spread : Align → ℕ → ℕ → Bool
is_spread Left e g = false
is_spread Spread e g = nat_lt 0 e && nat_lt 0 g
is_spread Right e g = false
is_spread Centre e g = false

-- how far a line that leaves e cells stands from the indent
abbrev pub shift : Align → ℕ → ℕ
shift Left e = 0
shift Spread e = 0
shift Right e = e
shift Centre e = e / 2

-- what the first n pieces leave of the line
abbrev pub left_over : Collected → ℕ → ℕ
left_over c n = c.margins.length - prefix_width n c.pieces

abbrev pub spreads : Align → Collected → ℕ → Bool
spreads align c n = is_spread align (left_over c n) (gaps (take n c.pieces))

abbrev pub extra_of : Align → Collected → ℕ → Extra
extra_of align c n =
    if spreads align c n then shared c.turn (left_over c n) (gaps (take n c.pieces)) else no_extra

-- the text of the first n pieces as a line
abbrev pub text_of : Align → Collected → ℕ → List Cell
text_of align c n =
    cells_in_line (extra_of align c n) (take n c.pieces) ++ hyphens (hyphen_before (drop n c.pieces))

-- a line's row: blanks for the page offset, the indent and what a right or centred line stands from it, then the text
abbrev pub line_row : Setting → Collected → ℕ → List Cell
line_row s c n =
    replicate (s.offset + c.margins.indent + shift s.align (left_over c n)) blank ++ text_of s.align c n

-- the line as it is placed
abbrev pub set_line : Setting → Collected → ℕ → List Cell
set_line s c n = trimmed (line_row s c n)

-- how wide the text is, without the blanks at its end
abbrev pub set_width : Setting → Collected → ℕ → ℕ
set_width s c n = length (trimmed (text_of s.align c n))

-- What is left after the first n pieces. A line that begins with what is left, if only with the word that is being read, takes its margins
-- now, and the turn changes after a line that was spread.
abbrev pub without_prefix : ℕ → Bool → Margins → Collected → Collected
without_prefix n spread margins c =
    let rest = drop n c.pieces in
    record c {
      pieces = rest;
      margins = if begins_line (record c { pieces = rest }) then c.margins else margins;
      turn = if spread then other_turn c.turn else c.turn;
    }

abbrev pub afterwards : Margins → Align → Collected → ℕ → Collected
afterwards margins align c n = without_prefix n (spreads align c n) margins c

-- the number of pieces of the next full line
abbrev pub cut_of : Collected → ℕ
cut_of c = cut c.margins.length c.pieces
