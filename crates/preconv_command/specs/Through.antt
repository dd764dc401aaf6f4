-- Two stages, one after the other.
use Rattle.std.specs.Prelude.{◌≡◌, ℕ, List, [], Bool, false}
use Rattle.std.proofs.Common.{ap, ◌∙◌}

-- the second stage says what it says of the first
abbrev pub through : (Bool → List ℕ → List ℕ) → (Bool → List ℕ → List ℕ) → Bool → List ℕ → List ℕ
through first second ends bytes = second ends (first ends bytes)

-- where nothing comes nothing goes out
pub through_waits : (first second : Bool → List ℕ → List ℕ) → first false [] ≡ [] → second false [] ≡ []
    → through first second false [] ≡ []
through_waits first second one two = ap (second false) one ∙ two
