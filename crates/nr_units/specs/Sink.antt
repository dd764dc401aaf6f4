-- What a sink holds, and what of it went on.
use Rattle.std.specs.Prelude.{◌≡◌, ℕ, List, [], ◌∷◌, ◌++◌, Bool, true, false, Option, Result, Ok, Err}
use Rattle.std.specs.Io.KnownBytes.{Appends}
use Rattle.nr_units.specs.Failures.{SinkFailures}

-- known bytes grow by a prefix of bs
abbrev pub AppendsPrefix : Option (List ℕ) → Option (List ℕ) → List ℕ → Type 0
AppendsPrefix old new bs = (prefix : List ℕ) × (rest : List ℕ) × (bs ≡ prefix ++ rest) × Appends old new prefix

-- whether all was passed on once these bytes came: not where there is one
abbrev pub passed_on_with : Bool → List ℕ → Bool
passed_on_with before [] = before
passed_on_with before (b ∷ bs) = false

-- whether all was passed on once a flush gave this result
abbrev pub passed_on_by : {A E : Type 0} → Bool → Result A E → Bool
passed_on_by before (Ok x) = true
passed_on_by before (Err e) = before

-- a sink in memory: its bytes, how many of them it passed on, how many more it takes, whether its flush fails, and its failed calls
pub record Slate : Type 0 where
  pub bytes : List ℕ
  pub passed : ℕ
  pub room : ℕ
  pub flush_fails : Bool
  pub failures : SinkFailures
