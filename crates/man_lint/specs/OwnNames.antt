-- The names that a page gives its own macros and strings, which are one kind of names.
use Rattle.std.specs.Prelude.{ℕ, List, [], ◌∷◌, ◌++◌, length, Bool, true, false, ◌==◌, ◌||◌, if◌then◌else◌}
use Rattle.std.specs.Str.{bytes_eq}
use Rattle.nr_vectors.specs.Items.{Items}

-- there may be others than those that are kept, where `others` says so
pub record AllNames : Type 0 where
  pub names : Items (List ℕ)
  pub others : Bool

abbrev pub no_names : ℕ → AllNames
no_names capacity = record { names = record { items = []; capacity = capacity }; others = false }

abbrev pub has : List ℕ → List (List ℕ) → Bool
has name [] = false
has name (own ∷ others) = if bytes_eq own name then true else has name others

-- a name with escapes is not known
abbrev pub given : List ℕ → Bool → AllNames → AllNames
given name escaped n =
    if escaped || (length n.names.items == n.names.capacity) then record n { others = true } else
    record n { names = record n.names { items = n.names.items ++ name ∷ [] } }
