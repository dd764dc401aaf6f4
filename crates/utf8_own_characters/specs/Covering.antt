-- Where all that a page shows has room, the table that is made of it has all of it.
use Rattle.std.specs.Prelude.{◌≡◌, ℕ, ◌<◌, List, [], ◌∷◌, true, if◌then◌else◌}
use Rattle.utf8_own_characters.specs.declared.cluster.Cluster.{Cluster}
use Rattle.utf8_own_characters.specs.declared.counting.Count.{Count}
use Rattle.utf8_own_characters.specs.Choosing.{chosen, has_room, narrow_count, nothing, table_of, wide_count}
use Rattle.utf8_own_characters.specs.Looking.{seen, takes_place}
use Rattle.utf8_own_characters.specs.Ranking.{ranked}
use Rattle.utf8_own_characters.specs.Table.{covers}

-- those that are beyond ASCII, and show something
abbrev pub taking_place : List Cluster → List Cluster
taking_place [] = []
taking_place (c ∷ cs) = if takes_place c then c ∷ taking_place cs else taking_place cs

-- where more are counted than ever have room, and all that were counted have room, the table of these has all that came
abbrev pub AllAreCovered : Type 0
AllAreCovered = (room : ℕ) (before : List Count) (cs : List Cluster) (halves : ℕ) → 4224 < room
    → has_room (narrow_count (seen room before cs)) (wide_count (seen room before cs)) ≡ true
    → covers (table_of (chosen nothing (ranked (seen room before cs))) halves) (taking_place cs) ≡ true
