-- A sink in memory.
use Rattle.std.specs.Prelude.{ℕ, List, Bool}

-- the bytes that it holds, whether they were passed on, and how many of its calls failed
pub record Kept : Type 0 where
  pub bytes : List ℕ
  pub is_passed_on : Bool
  pub failures : ℕ
