-- A sink in memory.
use Rattle.std.specs.Prelude.{◌≡◌, ℕ, ◌≤◌, List, length, Bool, ◌⊎◌}

-- the bytes that it holds, and how many it may; whether they were passed on, and how many of its calls failed
pub record Filled : Type 0 where
  pub bytes : List ℕ
  pub room : ℕ
  pub is_passed_on : Bool
  pub failures : ℕ

-- all of these went into the room, or they take all of it
abbrev pub Fills : List ℕ → List ℕ → ℕ → Type 0
Fills all items room = (items ≡ all) ⊎ ((length items ≡ room) × (room ≤ length all))
