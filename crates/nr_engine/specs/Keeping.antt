-- An engine that has read the first bytes of an input, and is kept.
use Rattle.std.specs.Prelude.{◌≡◌, ℕ, ◌+◌, ◌*◌, ◌≤◌, List, [], Some, true, false}
use Rattle.nr_input.specs.Place.{has_failed, is_unseen}
use Rattle.nr_options.specs.Limits.{Bounds}
use Rattle.nr_options.specs.declared.options.Options.{Options}
use Rattle.nr_machine.specs.State.{State, start}
use Rattle.nr_machine.specs.FirstBytes.{broken_off}
use Rattle.nr_machine.specs.Holding.{Shape, Holds, Made, weight, worth}
use Rattle.nr_machine.specs.Limits.{limits_of, limits_under}

-- under which limits it was made and what it has read with which options, how it stands, and how many moves
-- led there
pub record Keeping : Type 0 where
  pub limits : Bounds
  pub options : Options
  pub first : List ℕ
  pub engine : Shape
  pub moves : ℕ

-- It stands before a source that breaks off here, and n moves from s led there. Nothing went out.
pub record Reaches (s : State) (n : ℕ) (e : Shape) : Type 0 where
  pub made : Made [] s n e (Some (broken_off [])) (Some []) (Some [])
  pub unseen : is_unseen e.place.ahead ≡ true

-- At whatever state the engine e held before a source that breaks off after these bytes, moves were made
-- until all were taken: of a run that may make so many at most, and had made `before`.
pub record Reads (most : ℕ) (e : Shape) (first : List ℕ) (before after : ℕ) (f : Shape) : Type 0 where
  pub made : (s : State) → Holds [] (Some (broken_off first)) s e
      → (n : ℕ) × (after ≡ before + n) × Reaches s n f
  pub allowed : after ≤ most
  pub bound : after + weight f ≤ worth f * (f.place.taken + 1)
  pub unfailed : has_failed f.place.ahead ≡ false

-- It has read these bytes, up to the last, and looked no further: a run can go on from it.
pub record GoesOn (k : Keeping) : Type 0 where
  pub read : Reaches (start k.limits k.options (broken_off k.first)) k.moves k.engine
  pub limits : limits_of k.engine ≡ limits_under k.limits
  pub unfailed : has_failed k.engine.place.ahead ≡ false
  pub allowed : k.moves ≤ k.limits.moves
  pub bound : k.moves + weight k.engine ≤ worth k.engine * (k.engine.place.taken + 1)
