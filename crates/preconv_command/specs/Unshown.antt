-- What is reported of characters that are not shown.
use Rattle.std.specs.Prelude.{◌≡◌, ℕ, List, [], ◌∷◌, Bool, true, false, Option, None, Some, ⊤, codes}
use Rattle.std.specs.List.{concat}
use Rattle.nr_units.specs.Failures.{SinkFailures}
use Rattle.utf8_own_characters.specs.Ranking.{ranked}
use Rattle.utf8_own_page.specs.Lacking.{left_of, names_of}
use Rattle.filters.specs.Disk.{Opening, Opens}
use Rattle.filters.specs.Endings.{Tells}
use Rattle.filters.specs.declared.endings.Ending.{Ending}
use Rattle.filters.specs.declared.endings.Ending.TheVariants.{Done, Complained}
use Rattle.filters_own.specs.Looking.{LookIsShort, counts_in, prefix_in}

-- the line about a text of this name of which characters of these names are not shown; nothing where there
-- are none
abbrev pub unshown_line : List ℕ → List ℕ → List ℕ
unshown_line name [] = []
unshown_line name (b ∷ bs) =
    concat (codes "preconv: " ∷ name ∷ codes ": characters not shown:" ∷ (b ∷ bs) ∷ codes "\n" ∷ [])

-- all went out
abbrev pub is_whole : Ending → Bool
is_whole Done = true
is_whole Complained = true
is_whole ending = false

-- where all went out, nothing else is reported after that line
pub record EndsWith (held : Option (List ℕ)) (untold : SinkFailures) (line : List ℕ) : Type 0 where
  pub before : Option (List ℕ)
  pub untold_before : SinkFailures
  pub tells : Tells before held untold_before untold line

-- ---- of the table of a page

-- THOSE THAT IT HAS NO ROOM FOR, of what the first 512 KiB of the page print
abbrev pub AreLeftIn : Option (List ℕ) → List ℕ → Type 0
AreLeftIn None names = ⊤
AreLeftIn (Some bytes) names =
    LookIsShort (prefix_in bytes) → names ≡ names_of (left_of (ranked (counts_in true (prefix_in bytes))))

-- this file was opened, and they are reported
pub record AreReported (may_come : List ℕ → Opening → Type 0) (file : List ℕ) (held : Option (List ℕ)) (untold : SinkFailures) : Type 0 where
  pub left : Option (List ℕ)
  pub opened : may_come file (Opens left)
  pub names : List ℕ
  pub are : AreLeftIn left names
  pub line : EndsWith held untold (unshown_line file names)
