-- Spreading a line: its gaps are widened until it is as long as it may be. (CSTR 54, section 4.1.)
use Rattle.std.specs.Prelude.{ℕ, ◌+◌, ◌-◌, ◌/◌, ◌%◌, Bool, true, false, ◌&&◌, nat_le, nat_lt, if◌then◌else◌, List, [], ◌∷◌, ◌++◌, replicate, count_by}
use Rattle.nr_vectors.specs.Cell.{blank}
use Rattle.nr_vectors.specs.declared.cell.Cell.{Cell}
use Rattle.nr_fill.specs.declared.piece.Join.{Join}
use Rattle.nr_fill.specs.declared.piece.Join.TheVariants.{Gap, Soft, Hard}
use Rattle.nr_fill.specs.declared.margins.Turn.{Turn}
use Rattle.nr_fill.specs.declared.margins.Turn.TheVariants as turns
use Rattle.nr_fill.specs.declared.setting.Extra.{Extra}
use Rattle.nr_fill.specs.Piece.{Piece}

-- pieces that hang on others by a gap
abbrev pub is_gap : Join → Bool
is_gap (Gap k) = true
is_gap Soft = false
is_gap Hard = false

-- how many gaps stand inside a line
abbrev pub gaps : List Piece → ℕ
gaps [] = 0
gaps (p ∷ ps) = count_by (λ (q : Piece). is_gap q.join) ps

-- no gap is widened
abbrev pub no_extra : Extra
no_extra = record { each = 0; above = 0; up_to = 0 }

-- e blanks over g gaps: e div g each, and 1 more in the leftmost e mod g of them, or in the rightmost
abbrev pub shared : Turn → ℕ → ℕ → Extra
shared turns.Left e g = record { each = e / g; above = 0; up_to = e % g }
shared turns.Right e g = record { each = e / g; above = g - e % g; up_to = g }

abbrev pub other_turn : Turn → Turn
other_turn turns.Left = turns.Right
other_turn turns.Right = turns.Left

-- by how much gap i is widened, counted from 1
abbrev pub extra_at : Extra → ℕ → ℕ
extra_at x i = x.each + (if nat_lt x.above i && nat_le i x.up_to then 1 else 0)

-- the blanks before a piece that is not the first
abbrev pub blanks_before : Extra → ℕ → Join → ℕ
blanks_before x i (Gap k) = k + extra_at x i
blanks_before x i Soft = 0
blanks_before x i Hard = 0

-- the number of the next gap
abbrev pub next_gap : ℕ → Join → ℕ
next_gap i (Gap k) = i + 1
next_gap i Soft = i
next_gap i Hard = i

-- pieces that are not the first, from gap i on
abbrev pub cells_after : Extra → ℕ → List Piece → List Cell
cells_after x i [] = []
cells_after x i (p ∷ ps) =
    replicate (blanks_before x i p.join) blank ++ p.cells ++ cells_after x (next_gap i p.join) ps

-- the cells of these pieces as a line
abbrev pub cells_in_line : Extra → List Piece → List Cell
cells_in_line x [] = []
cells_in_line x (p ∷ ps) = p.cells ++ cells_after x 1 ps
