-- The limits: what they bound, and between which numbers each may lie.
use Rattle.std.specs.Prelude.{ℕ, ◌≤◌, ◌-◌, ◌^◌}
use Rattle.nr_options.specs.declared.limits.Limit.{Limit}
use Rattle.nr_options.specs.declared.limits.Limit.TheVariants.{Stored, Depth, Cells, Expansions, Moves}

-- the most that each measure may come to
pub record Bounds : Type 0 where
  pub stored : ℕ
  pub depth : ℕ
  -- of a line, and of a page
  pub cells : ℕ
  pub expansions : ℕ
  -- of the whole run
  pub moves : ℕ

-- the least number that a limit may be, and the greatest
abbrev pub least_of : Limit → ℕ
least_of Stored = 64
least_of Depth = 1
least_of Cells = 1
least_of Expansions = 1
-- the options make 33 at most
least_of Moves = 64

abbrev pub greatest_of : Limit → ℕ
greatest_of Stored = 2 ^ 24
greatest_of Depth = 4096
greatest_of Cells = 2 ^ 24
greatest_of Expansions = 2 ^ 32
greatest_of Moves = 2 ^ 64 - 1

abbrev pub IsInRange : Limit → ℕ → Type 0
IsInRange limit n = (least_of limit ≤ n) × (n ≤ greatest_of limit)

-- each limit is in its range
abbrev pub AreLimits : Bounds → Type 0
AreLimits b =
    (64 ≤ b.stored) × (b.stored ≤ 2 ^ 24) × (1 ≤ b.depth) × (b.depth ≤ 4096)
    × (1 ≤ b.cells) × (b.cells ≤ 2 ^ 24) × (1 ≤ b.expansions) × (b.expansions ≤ 2 ^ 32)
    × (64 ≤ b.moves) × (b.moves ≤ 2 ^ 64 - 1)

-- where none is given
abbrev pub default_bounds : Bounds
default_bounds = record { stored = 262144; depth = 256; cells = 65536; expansions = 1000000; moves = 2 ^ 64 - 1 }

-- that limit set, and the others as they were
abbrev pub with_bound : Limit → ℕ → Bounds → Bounds
with_bound Stored n b = record b { stored = n }
with_bound Depth n b = record b { depth = n }
with_bound Cells n b = record b { cells = n }
with_bound Expansions n b = record b { expansions = n }
with_bound Moves n b = record b { moves = n }
