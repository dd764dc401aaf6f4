-- The newest level, so many elements further on.
use Rattle.std.specs.Prelude.{◌≡◌, ℕ, ◌+◌, ◌^◌, ◌<◌, ◌≤◌, List, [], ◌∷◌, length, drop}
use Rattle.nr_levels.specs.Levels.{Source, Text, Own, Mark, Open}

-- a source so many elements further on
abbrev pub further : {K : Type 0} → ℕ → Source K → Source K
further n (Text id place) = Text id (place + n)
further n (Own bytes) = Own (drop n bytes)
further n (Mark mode) = Mark mode

-- the newest level so many elements further on
abbrev pub further_on : {K : Type 0} → ℕ → List (Open K) → List (Open K)
further_on n [] = []
further_on n (l ∷ ls) = record l { source = further n l.source } ∷ ls

-- a source has so many elements more, where its text has
abbrev pub Reaches : {K : Type 0} → ℕ → Source K → Type 0
Reaches n (Text id place) = 0 < n → place + n < 2 ^ 32
Reaches n (Own bytes) = n ≤ length bytes
Reaches n (Mark mode) = n ≡ 0

-- the newest level has
abbrev pub NewestReaches : {K : Type 0} → ℕ → List (Open K) → Type 0
NewestReaches n [] = n ≡ 0
NewestReaches n (l ∷ ls) = Reaches n l.source
