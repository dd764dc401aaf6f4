-- A stage that is on or off.
use Rattle.std.specs.Prelude.{◌≡◌, ℕ, List, [], Bool, true, false, refl}

-- off, what comes goes out as it is
abbrev pub says_if : Bool → (Bool → List ℕ → List ℕ) → Bool → List ℕ → List ℕ
says_if true says ends bytes = says ends bytes
says_if false says ends bytes = bytes

abbrev pub fits_if : Bool → (List ℕ → Bool) → List ℕ → Bool
fits_if true fits bytes = fits bytes
fits_if false fits bytes = true

-- and nothing is counted
abbrev pub counts_if : Bool → (Bool → List ℕ → ℕ) → Bool → List ℕ → ℕ
counts_if true counts ends bytes = counts ends bytes
counts_if false counts ends bytes = 0

abbrev pub wants_if : Bool → ℕ → ℕ
wants_if true n = n
wants_if false n = 1

pub waits_if : (on : Bool) (says : Bool → List ℕ → List ℕ) → says false [] ≡ [] → says_if on says false [] ≡ []
waits_if true says none = none
waits_if false says none = refl
