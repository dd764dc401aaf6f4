-- Which of the clusters that were counted a table has.
use Rattle.std.specs.Prelude.{◌≡◌, ℕ, ◌+◌, ◌-◌, ◌*◌, ◌/◌, ◌<◌, ◌≤◌, List, [], ◌∷◌, ◌++◌, length, Bool, true, false, not, ◌&&◌, ◌||◌, nat_le, if◌then◌else◌}
use Rattle.utf8_own_characters.specs.declared.cluster.Cluster.{Cluster}
use Rattle.utf8_own_characters.specs.declared.counting.Count.{Count}
use Rattle.utf8_own_characters.specs.Cluster.{is_wide}
use Rattle.utf8_own_characters.specs.Table.{Characters, Good, is_among}
use Rattle.utf8_own_characters.specs.Counting.{is_once}

-- so many pairs can be made of so many halves, of which one half are leads
abbrev pub pairs_in : ℕ → ℕ
pairs_in halves = (halves / 2) * (halves - halves / 2)

-- whether so many clusters of one column and so many of two have room in 128 bytes
abbrev pub has_room : ℕ → ℕ → Bool
has_room narrow wide = nat_le narrow 128 && nat_le wide (pairs_in (128 - narrow))

-- those of one column, and those of two
pub record Choice : Type 0 where
  pub narrow : List Cluster
  pub wide : List Cluster

abbrev pub choice : List Cluster → List Cluster → Choice
choice narrow wide = record { narrow = narrow; wide = wide }

abbrev pub nothing : Choice
nothing = choice [] []

abbrev pub fits : Choice → Bool
fits k = has_room (length k.narrow) (length k.wide)

abbrev pub with_cluster : Choice → Cluster → Choice
with_cluster k c = if is_wide c then record k { wide = k.wide ++ c ∷ [] } else record k { narrow = k.narrow ++ c ∷ [] }

-- one more, if it has room
abbrev pub added : Choice → Cluster → Choice
added k c = if fits (with_cluster k c) then with_cluster k c else k

-- the first ones that have room, one after the other
abbrev pub chosen : Choice → List Count → Choice
chosen k [] = k
chosen k (x ∷ xs) = chosen (added k x.cluster) xs

-- those that have none
abbrev pub left_out : Choice → List Count → List Cluster
left_out k [] = []
left_out k (x ∷ xs) = if fits (with_cluster k x.cluster) then left_out (added k x.cluster) xs else x.cluster ∷ left_out (added k x.cluster) xs

-- how many bytes are halves of so many pairs: as few as can be
pub record IsFewest (halves wide : ℕ) : Type 0 where
  pub enough : wide ≤ pairs_in halves
  pub least : (fewer : ℕ) → fewer < halves → pairs_in fewer < wide

abbrev pub table_of : Choice → ℕ → Characters
table_of k halves = record { narrow = k.narrow; wide = k.wide; halves = halves }

-- ---- what is promised of a choice

-- what is chosen of clusters that are counted once each is a table that is read in one way
abbrev pub ChoiceIsGood : Type 0
ChoiceIsGood = (xs : List Count) (halves : ℕ) → is_once xs ≡ true → IsFewest halves (length (chosen nothing xs).wide)
    → Good (table_of (chosen nothing xs) halves)

abbrev pub is_in : Choice → Cluster → Bool
is_in k c = is_among c k.narrow || is_among c k.wide

abbrev pub each_is_somewhere : Choice → List Cluster → List Count → Bool
each_is_somewhere k out [] = true
each_is_somewhere k out (x ∷ xs) = (is_in k x.cluster || is_among x.cluster out) && each_is_somewhere k out xs

-- each that was counted is in the table, or reported
abbrev pub NoneIsLost : Type 0
NoneIsLost = (xs : List Count) → each_is_somewhere (chosen nothing xs) (left_out nothing xs) xs ≡ true

abbrev pub narrow_count : List Count → ℕ
narrow_count [] = 0
narrow_count (x ∷ xs) = (if is_wide x.cluster then 0 else 1) + narrow_count xs

abbrev pub wide_count : List Count → ℕ
wide_count [] = 0
wide_count (x ∷ xs) = (if is_wide x.cluster then 1 else 0) + wide_count xs

-- where all have room, none is reported
abbrev pub AllFit : Type 0
AllFit = (xs : List Count) → has_room (narrow_count xs) (wide_count xs) ≡ true → left_out nothing xs ≡ []

abbrev pub is_as_wide : Bool → Cluster → Bool
is_as_wide true c = is_wide c
is_as_wide false c = not (is_wide c)

-- all of these that are as wide are among those
abbrev pub as_wide_are_left : Bool → List Cluster → List Count → Bool
as_wide_are_left w out [] = true
as_wide_are_left w out (y ∷ ys) = (not (is_as_wide w y.cluster) || is_among y.cluster out) && as_wide_are_left w out ys

-- where one has no room, none of those after it that are as wide has
abbrev pub FirstComeFirst : Type 0
FirstComeFirst = (k : Choice) (x : Count) (xs : List Count) → fits (with_cluster k x.cluster) ≡ false
    → as_wide_are_left (is_wide x.cluster) (left_out k xs) xs ≡ true

-- the trails are the least number whose square reaches that of the pairs, and the leads as few as reach it with them
pub record AreSides (halves wide : ℕ) : Type 0 where
  pub reach : wide ≤ (halves - halves / 2) * (halves - halves / 2)
  pub fewer_trails : (t : ℕ) → t < halves - halves / 2 → t * t < wide
  pub fewer_leads : (l : ℕ) → l < halves / 2 → l * (halves - halves / 2) < wide

abbrev pub FewestAreSides : Type 0
FewestAreSides = (halves wide : ℕ) → IsFewest halves wide → AreSides halves wide
