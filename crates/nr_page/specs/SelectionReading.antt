-- What the readers of a page list say of the prefix that they read, and of the rest.
use Rattle.std.specs.Prelude.{◌≡◌, ℕ, ◌≤◌, List, [], ◌∷◌}
use Rattle.std.specs.Char.{digit_value}
use Rattle.nr_page.specs.Selection.{comma}

-- the text doesn't begin with a decimal digit
abbrev pub BeginsNoDigit : List ℕ → Type 0
BeginsNoDigit [] = Unit {0}
BeginsNoDigit (byte ∷ bytes) = 10 ≤ digit_value byte

-- the text is empty or begins with a comma
abbrev pub BeginsAfterItem : List ℕ → Type 0
BeginsAfterItem [] = Unit {0}
BeginsAfterItem (byte ∷ bytes) = byte ≡ comma
