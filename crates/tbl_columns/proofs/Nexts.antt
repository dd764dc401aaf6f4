-- What is read of the next one, where some are left.
use Rattle.std.proofs.Common.{◌≡◌, ℕ, suc, ◌+◌, ◌-◌, ◌<◌, ◌≤◌, ◌==◌, ◌&&◌, ◌||◌, nat_lt, ap, arith, ◌∙◌, if◌then◌else◌}
use Rattle.tbl_columns.specs.declared.grid.Grid.{Grid}
use Rattle.tbl_columns.specs.Cells.{goes_over, is_across, stands_over}
use Rattle.tbl_columns.specs.Columns.{is_given, together, with_column}
use Rattle.tbl_columns.specs.Frames.{bars_of, some_bars}
use Rattle.tbl_columns.specs.Held.{cell_number, column}
use Rattle.tbl_columns.specs.Texts.{all_given, some_wide}
use Rattle.tbl_table.specs.declared.table.Line.{Line}
use Rattle.tbl_table.specs.Held.{key}

next_left : (n end : ℕ) → n < end → end - n ≡ suc (end - (n + 1))
next_left n end h = omega (arith, h)

pub bars_next : (g : Grid) (r c end : ℕ) → c < end
    → some_bars (end - c) g r c ≡ (nat_lt 0 (bars_of g r c) || some_bars (end - (c + 1)) g r (c + 1))
bars_next g r c end h = ap (λ (m : ℕ). some_bars m g r c) (next_left c end h)

pub whole_next : (g : Grid) (r f c end : ℕ) → c < end
    → stands_over (end - c) g r f c ≡ ((cell_number g r c == f) && stands_over (end - (c + 1)) g r f (c + 1))
whole_next g r f c end h = ap (λ (m : ℕ). stands_over m g r f c) (next_left c end h)

pub wide_next : (g : Grid) (c end : ℕ) → c < end
    → some_wide (end - c) g c ≡ ((column g c).wide || some_wide (end - (c + 1)) g (c + 1))
wide_next g c end h = ap (λ (m : ℕ). some_wide m g c) (next_left c end h)

pub given_next : (g : Grid) (c end : ℕ) → c < end
    → all_given (end - c) g c ≡ (is_given (column g c).least && all_given (end - (c + 1)) g (c + 1))
given_next g c end h = ap (λ (m : ℕ). all_given m g c) (next_left c end h)

-- a field that stands over the column before goes on over this one
pub over_next : (g : Grid) (l : Line) (last c end : ℕ) → c < end → last + 1 ≡ c
    → goes_over (end - c) g l last ≡ (if is_across (key g.table l c).kind then goes_over (end - (c + 1)) g l c else last)
over_next g l last c end h e =
    ap (λ (m : ℕ). goes_over m g l last) (next_left c end h)
    ∙ ap (λ (m : ℕ). if is_across (key g.table l m).kind then goes_over (end - (c + 1)) g l m else last) e

pub together_next : (g : Grid) (first last n : ℕ) → first ≤ n
    → together (n + 1 - first) g first last ≡ with_column (nat_lt n last) (together (n - first) g first last) (column g n)
together_next g first last n h =
    let more : n + 1 - first ≡ suc (n - first) = omega (arith, h) in
    let at : first + (n - first) ≡ n = omega (arith, h) in
    ap (λ (m : ℕ). together m g first last) more
    ∙ ap (λ (m : ℕ). with_column (nat_lt m last) (together (n - first) g first last) (column g m)) at
