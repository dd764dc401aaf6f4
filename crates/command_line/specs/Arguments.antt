-- The words of the command line.
use Rattle.std.specs.Prelude.{ℕ, ◌+◌, ◌≤◌, List, length, Option, slice_get}

-- These stand after the program's name, one after the other, and nothing after the last.
abbrev pub AreWords : (ℕ → Option (List ℕ) → Type 0) → List (List ℕ) → Type 0
AreWords may_stand words = (place : ℕ) → place ≤ length words → may_stand (place + 1) (slice_get words place)
