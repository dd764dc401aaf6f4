-- What is promised of the table of a page.
use Rattle.std.specs.Prelude.{◌≡◌, ℕ, List, Bool, true}
use Rattle.utf8_own_characters.specs.Choosing.{has_room, narrow_count, wide_count}
use Rattle.utf8_own_characters.specs.Covering.{taking_place}
use Rattle.utf8_own_characters.specs.Listening.{clusters_in, first}
use Rattle.utf8_own_characters.specs.Table.{Characters, covers}
use Rattle.utf8_own_page.specs.Looking.{counts_of}
use Rattle.utf8_own_page.specs.Needing.{IsTableOf}

-- where all that was counted of a page has room, its table has each letter with its marks that the page has
-- and that takes a place
abbrev pub PagesAreCovered : Type 0
PagesAreCovered = (frames : Bool) (text : List ℕ) (t : Characters) → IsTableOf (counts_of 4352 frames text) t
    → has_room (narrow_count (counts_of 4352 frames text)) (wide_count (counts_of 4352 frames text)) ≡ true
    → covers t (taking_place (clusters_in first text)) ≡ true
