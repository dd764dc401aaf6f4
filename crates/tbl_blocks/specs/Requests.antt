-- The requests of a block that are set here (tbl(1), TEXT BLOCKS): by the table `NAMES`.
use Rattle.std.specs.Prelude.{ℕ, Bool, true, false, List, [], ◌∷◌, ◌==◌, ◌&&◌, if◌then◌else◌}
use Rattle.tbl_blocks.specs.declared.requests.Request.{Request}
use Rattle.tbl_blocks.specs.declared.requests.Request.TheVariants as requests
use Rattle.tbl_blocks.specs.declared.requests.TheConstants.{NAMES}

-- what a table has after two letters
abbrev pub looked_up : List (ℕ × ℕ × Request) → ℕ → ℕ → Request
looked_up [] a b = requests.Unknown
looked_up (entry ∷ entries) a b =
    if (entry.0 == a) && (entry.1 == b) then entry.2 else looked_up entries a b

unfoldable pub letters_request : ℕ → ℕ → Request
letters_request a b = looked_up NAMES a b

-- a name of one letter has 0 as its second, none has it twice; a longer one is not known
abbrev pub request_of : List ℕ → Request
request_of [] = letters_request 0 0
request_of (a ∷ []) = letters_request a 0
request_of (a ∷ b ∷ []) = letters_request a b
request_of (a ∷ b ∷ c ∷ more) = requests.Unknown

-- it is set, or changes nothing here
abbrev pub is_set : Request → Bool
is_set requests.Unset = false
is_set requests.Unknown = false
is_set request = true
