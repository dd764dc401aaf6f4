-- How often each cluster of a page comes.
use Rattle.std.specs.Prelude.{ℕ, ◌+◌, List, [], ◌∷◌, length, Bool, true, false, not, ◌&&◌, ◌||◌, ◌==◌, nat_lt, Option, None, Some, if◌then◌else◌}
use Rattle.utf8_own_characters.specs.declared.cluster.Cluster.{Cluster}
use Rattle.utf8_own_characters.specs.declared.counting.Count.{Count}
use Rattle.utf8_own_characters.specs.Cluster.{is_same}

-- once more, as far as a number of 32 bits counts
abbrev pub raised : Count → Count
raised x = record x { times = if x.times == 0xFFFF_FFFF then x.times else x.times + 1 }

abbrev pub first_time : Cluster → Count
first_time c = record { cluster = c; times = 1 }

-- a cluster comes: its count is raised, or it is the last of those that were seen
abbrev pub counted : List Count → Cluster → List Count
counted [] c = first_time c ∷ []
counted (x ∷ xs) c = if is_same x.cluster c then raised x ∷ xs else x ∷ counted xs c

abbrev pub is_counted : List Count → Cluster → Bool
is_counted [] c = false
is_counted (x ∷ xs) c = is_same x.cluster c || is_counted xs c

-- where there is room for so many clusters
abbrev pub counted_within : ℕ → List Count → Cluster → List Count
counted_within room xs c = if is_counted xs c || nat_lt (length xs) room then counted xs c else xs

-- each cluster is counted once
abbrev pub is_once : List Count → Bool
is_once [] = true
is_once (x ∷ xs) = not (is_counted xs x.cluster) && is_once xs

-- the place of a cluster among these counts, of which the first has this place
abbrev pub count_from : ℕ → List Count → Cluster → Option ℕ
count_from k [] c = None
count_from k (x ∷ xs) c = if is_same x.cluster c then Some k else count_from (k + 1) xs c
