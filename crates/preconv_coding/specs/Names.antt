-- The names of codings (groff's preconv(1), Coding Tags).
use Rattle.std.specs.Prelude.{ℕ, ◌-◌, List, [], ◌∷◌, length, take, drop, Bool, ◌==◌, ◌&&◌, nat_le, if◌then◌else◌, Option, None, Some, codes}
use Rattle.std.specs.Str.{bytes_eq}
use Rattle.preconv_coding.specs.declared.names.Coding.{Coding}
use Rattle.preconv_coding.specs.declared.names.TheConstants.{NAMES}

abbrev pub ends_with : List ℕ → List ℕ → Bool
ends_with ending name =
    nat_le (length ending) (length name) && bytes_eq (drop (length name - length ending) name) ending

abbrev pub without : List ℕ → List ℕ → List ℕ
without ending name = if ends_with ending name then take (length name - length ending) name else name

-- the name without what tells how lines end, and without a `-` of `-*-` that stands right after it
abbrev pub base_of : List ℕ → List ℕ
base_of name =
    without (codes "-unix") (without (codes "-mac") (without (codes "-dos") (without (codes "-") name)))

-- what stands before the first NUL
abbrev pub before_nul : List ℕ → List ℕ
before_nul [] = []
before_nul (b ∷ bs) = if b == 0 then [] else b ∷ before_nul bs

-- what these have for a name, which stands in them before a NUL
abbrev pub named_in : List (List ℕ × Coding) → List ℕ → Option Coding
named_in [] name = None
named_in (entry ∷ entries) name =
    if bytes_eq (before_nul entry.0) name then Some entry.1 else named_in entries name

-- the coding of a name, if it is known
unfoldable pub coding_named : List ℕ → Option Coding
coding_named name = named_in NAMES (base_of name)
