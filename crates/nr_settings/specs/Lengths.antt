-- Widths and heights, in units.
use Rattle.std.specs.Prelude.{◌≡◌, ℕ, ◌%◌, ◌≤◌, min, max, ℤ, pos, negsuc}
use Rattle.nr_units.specs.Units.{nearest_multiple}

-- from 0 to 1365 characters wide
pub record IsWidth (n : ℕ) : Type 0 where
  pub most : n ≤ 32760
  pub characters : n % 24 ≡ 0

-- from 1 to 819 lines high
pub record IsHeight (n : ℕ) : Type 0 where
  pub least : 40 ≤ n
  pub most : n ≤ 32760
  pub lines : n % 40 ≡ 0

-- a number, or the nearer end of a range where it lies outside
abbrev pub held : ℕ → ℕ → ℤ → ℕ
held least most (pos n) = max least (min n most)
held least most (negsuc n) = least

-- the width nearest to so many units, and at least this one
abbrev pub width_from : ℕ → ℤ → ℕ
width_from least units = held least 32760 (nearest_multiple 24 units)

-- the height nearest to so many units
abbrev pub height_of : ℤ → ℕ
height_of units = held 40 32760 (nearest_multiple 40 units)
