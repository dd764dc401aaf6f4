-- What tables have for names.
use Rattle.std.specs.Prelude.{ℕ, List, [], ◌∷◌, ◌==◌, if◌then◌else◌, Option, None, Some}
use Rattle.std.specs.Str.{bytes_eq}

-- what stands before the first NUL
abbrev pub before_nul : List ℕ → List ℕ
before_nul [] = []
before_nul (b ∷ bs) = if b == 0 then [] else b ∷ before_nul bs

-- what a table has for a name, which stands in it before a NUL
abbrev pub named_in : {T : Type 0} → List (List ℕ × T) → List ℕ → Option T
named_in [] name = None
named_in (entry ∷ entries) name =
    if bytes_eq (before_nul entry.0) name then Some entry.1 else named_in entries name
