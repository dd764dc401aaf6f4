-- Dates of pages (mdoc(7), Dd), as mandoc prints them.
use Rattle.std.specs.Prelude.{ℕ, ◌-◌, List, [], ◌∷◌, ◌++◌, length, Bool, not, ◌==◌, ◌&&◌, nat_lt, if◌then◌else◌, slice_index, codes, Option, None, Some}
use Prim.Native.Char.{code}
use Rattle.mdoc_layout.specs.declared.dates.TheConstants.{MONTHS}
use Rattle.mdoc_layout.specs.declared.page.Page.{Page}
use Rattle.mdoc_layout.specs.Lookup.{before_nul, named_in}

unfoldable pub month_named : List ℕ → Option (List ℕ)
month_named word = named_in MONTHS word

-- the first three letters of a month stand for it
abbrev pub month_said : Option (List ℕ) → List ℕ → List ℕ
month_said None word = word
month_said (Some name) word = before_nul name

-- no zero stands before a day
abbrev pub day_said : List ℕ → List ℕ
day_said [] = []
day_said (b ∷ bs) = if b == code "0" then bs else b ∷ bs

abbrev pub is_comma_last : List ℕ → Bool
is_comma_last day = slice_index day (length day - 1) == code ","

-- a comma stands after it
abbrev pub after_day : List ℕ → List ℕ
after_day day = if nat_lt 0 (length day) && not (is_comma_last day) then codes ", " else codes " "

-- a date without a year stays as it is
abbrev pub date_begun : Page → List ℕ
date_begun p = p.month ++ (if length p.day == 0 then [] else codes " " ++ p.day)

abbrev pub date : Page → List ℕ
date p =
    if length p.year == 0 then date_begun p else
    month_said (month_named p.month) p.month ++ codes " " ++ day_said p.day ++ after_day (day_said p.day) ++ p.year
