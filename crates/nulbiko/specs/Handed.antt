-- What a source gives is handed over.
use Rattle.std.specs.Prelude.{◌≡◌, ℕ, List, [], Option, None, Some, ⊤}
use Rattle.nr_units.specs.Source.{Supply}

-- nothing is to come
abbrev pub IsOver : Option Supply → Type 0
IsOver None = ⊤
IsOver (Some q) = q.bytes ≡ []
