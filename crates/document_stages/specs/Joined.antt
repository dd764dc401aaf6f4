-- Bytes, and then those of a source.
use Rattle.std.specs.Prelude.{◌≡◌, ℕ, ◌+◌, List, [], ◌∷◌, ◌++◌, length, Option, None, Some, ⊤}
use Rattle.nr_units.specs.Source.{Faults, Never, After, Anytime, Supply}

-- where it fails that has so many bytes more before it
abbrev pub after_more : ℕ → Faults → Faults
after_more n Never = Never
after_more n (After m) = After (n + m)
after_more n Anytime = Anytime

abbrev pub preceded : List ℕ → Supply → Supply
preceded first q = record { bytes = first ++ q.bytes; faults = after_more (length first) q.faults }

abbrev pub joined : List ℕ → Option Supply → Option Supply
joined first None = None
joined first (Some q) = Some (preceded first q)

abbrev pub first_at_hand : List ℕ → List ℕ → List ℕ
first_at_hand [] others = others
first_at_hand (b ∷ bs) others = b ∷ bs

-- what is to come begins with these bytes
abbrev pub Begins : Option Supply → List ℕ → Type 0
Begins None first = ⊤
Begins (Some q) first = (rest : List ℕ) × (q.bytes ≡ first ++ rest)
