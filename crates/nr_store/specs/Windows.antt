-- A run of elements of the newest level.
use Rattle.std.specs.Prelude.{ℕ, zero, suc, List, [], ◌∷◌, drop, map}
use Rattle.nr_store.specs.declared.element.Element.{Element}
use Rattle.nr_store.specs.declared.element.Element.TheVariants as elements
use Rattle.nr_store.specs.declared.shown.Rest.{Rest}
use Rattle.nr_store.specs.declared.shown.Rest.TheVariants as rests
use Rattle.nr_store.specs.Store.{Level, Read, Mark, Stored, left}

-- what is left of a level's text
abbrev pub rest_in : {K : Type 0} → Level K → List Element
rest_in (Read l) = l.rest
rest_in (Mark mode) = []

-- what is left of the newest level's text
abbrev pub rest_of : {K : Type 0} → List (Level K) → List Element
rest_of [] = []
rest_of (l ∷ ls) = rest_in l

-- the elements of a rest
abbrev pub elements_in : Rest → List Element
elements_in (rests.Text text) = text.now
elements_in (rests.Bytes bytes) = map elements.Byte bytes.now

-- after what comes next, so many times
abbrev pub left_times : {K : Type 0} → ℕ → Stored K → Stored K
left_times zero v = v
left_times (suc n) v = left_times n (left v.levels v)

-- a level after so many elements of its text
abbrev pub level_after : {K : Type 0} → ℕ → Level K → Level K
level_after n (Read l) = Read (record l { rest = drop n l.rest })
level_after n (Mark mode) = Mark mode

-- with the newest level after so many elements of its text
abbrev pub levels_after : {K : Type 0} → ℕ → List (Level K) → List (Level K)
levels_after n [] = []
levels_after n (l ∷ ls) = level_after n l ∷ ls

abbrev pub run_left : {K : Type 0} → ℕ → Stored K → Stored K
run_left n v = record v { levels = levels_after n v.levels }
