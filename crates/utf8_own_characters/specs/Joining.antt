-- The clusters of a text of characters.
use Rattle.std.specs.Prelude.{ℕ, List, [], ◌∷◌, ◌++◌, Bool, true, false, ◌==◌, is_some, Option, None, Some, if◌then◌else◌}
use Rattle.unicode_width.specs.Width.{char_width}
use Rattle.unicode_normalization.specs.Compose.{primary_composite}
use Rattle.utf8_own_characters.specs.declared.cluster.Cluster.{Cluster}
use Rattle.utf8_own_characters.specs.declared.joining.Heard.{Heard}
use Rattle.utf8_own_characters.specs.Cluster.{single, blank, is_mark}
use Rattle.utf8_own_characters.specs.Reading.{list_of}

-- a mark after others, as far as there is room
abbrev pub marked : Cluster → ℕ → Cluster
marked c m =
    if c.first_mark == 0 then record c { first_mark = m }
    else if c.second_mark == 0 then record c { second_mark = m }
    else if c.third_mark == 0 then record c { third_mark = m } else c

-- a letter and its first mark are the character of both, where there is one
abbrev pub composed_by : Option ℕ → Cluster → ℕ → Cluster
composed_by None c m = marked c m
composed_by (Some d) c m = single d

abbrev pub with_mark : Cluster → ℕ → Cluster
with_mark c m = if c.first_mark == 0 then composed_by (primary_composite c.letter m) c m else marked c m

-- marks are put on what takes a column, so on no control character
abbrev pub takes_marks : Cluster → Bool
takes_marks c = is_some (char_width false c.letter)

-- the cluster that ends, if one does, and the one that is being read
abbrev pub heard : Option Cluster → Option Cluster → Heard
heard done held = record { done = done; held = held }

-- a mark that stands on nothing stands on a blank
abbrev pub hear_mark : Option Cluster → ℕ → Heard
hear_mark None m = heard None (Some (with_mark blank m))
hear_mark (Some c) m = if takes_marks c then heard None (Some (with_mark c m)) else heard (Some c) (Some (with_mark blank m))

abbrev pub hear : Option Cluster → ℕ → Heard
hear held c = if is_mark c then hear_mark held c else heard held (Some (single c))

abbrev pub clusters_from : Option Cluster → List ℕ → List Cluster
clusters_from held [] = list_of held
clusters_from held (c ∷ cs) = list_of (hear held c).done ++ clusters_from (hear held c).held cs

abbrev pub clusters : List ℕ → List Cluster
clusters = clusters_from None
