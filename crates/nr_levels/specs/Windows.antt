-- What is left of the newest level.
use Rattle.std.specs.Prelude.{List, [], ◌∷◌}
use Rattle.nr_levels.specs.declared.frame.Rest.{Rest}
use Rattle.nr_levels.specs.declared.frame.Rest.TheVariants as rests
use Rattle.nr_levels.specs.Levels.{Source, Text, Own, Mark, Open}

-- the source that gives this rest
abbrev pub source_in : {K : Type 0} → Rest → Source K
source_in (rests.Text id place) = Text id place
source_in (rests.Bytes bytes) = Own bytes.now

-- what is left of a source: no bytes where its end was taken
abbrev pub left_in : {K : Type 0} → Source K → Source K
left_in (Text id place) = Text id place
left_in (Own bytes) = Own bytes
left_in (Mark mode) = Own []

-- of the newest level; no bytes where there is none
abbrev pub rest_of : {K : Type 0} → List (Open K) → Source K
rest_of [] = Own []
rest_of (l ∷ ls) = left_in l.source
