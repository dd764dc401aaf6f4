-- The requests and macros outside of tables that say something of those that follow (man(7); CSTR 54): by the table `NAMES`.
use Rattle.std.specs.Prelude.{ℕ, List, [], ◌∷◌, ◌==◌, ◌&&◌, if◌then◌else◌}
use Rattle.tbl_setting.specs.declared.requests.Request.{Request}
use Rattle.tbl_setting.specs.declared.requests.Request.TheVariants as requests
use Rattle.tbl_setting.specs.declared.requests.TheConstants.{NAMES}

-- what a table has after two letters
abbrev pub looked_up : List (ℕ × ℕ × Request) → ℕ → ℕ → Request
looked_up [] a b = requests.Other
looked_up (entry ∷ entries) a b =
    if (entry.0 == a) && (entry.1 == b) then entry.2 else looked_up entries a b

unfoldable pub letters_request : ℕ → ℕ → Request
letters_request a b = looked_up NAMES a b

-- a name of one letter has 0 as its second; a longer one is another's
abbrev pub request_of : List ℕ → Request
request_of [] = requests.Other
request_of (a ∷ []) = letters_request a 0
request_of (a ∷ b ∷ []) = letters_request a b
request_of (a ∷ b ∷ c ∷ more) = requests.Other
