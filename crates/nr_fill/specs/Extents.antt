-- How far cells reach: how many there are, and how many up to the last that is no blank.
use Rattle.std.specs.Prelude.{◌≡◌, ℕ, ◌+◌, ◌-◌, ◌^◌, ◌==◌, min, if◌then◌else◌, List, ◌++◌, length}
use Rattle.nr_vectors.specs.Cell.{trimmed}
use Rattle.nr_vectors.specs.declared.cell.Cell.{Cell}

-- a count as far as it is kept
abbrev pub counted : ℕ → ℕ
counted n = min n (2 ^ 64 - 1)

-- how many there are up to the last that is no blank, where `more` of those that were added after `count` are
abbrev pub written_after : ℕ → ℕ → ℕ → ℕ
written_after written count more = if more == 0 then written else counted (count + more)

-- there are so many cells, and so many up to the last that is no blank
abbrev pub IsExtent : List Cell → ℕ → ℕ → Type 0
IsExtent cells count written = (count ≡ counted (length cells)) × (written ≡ counted (length (trimmed cells)))

-- these cells were added
abbrev pub AddsToExtent : ℕ → ℕ → List Cell → ℕ → ℕ → Type 0
AddsToExtent count written more count_now written_now = (cells : List Cell) → IsExtent cells count written
    → IsExtent (cells ++ more) count_now written_now
