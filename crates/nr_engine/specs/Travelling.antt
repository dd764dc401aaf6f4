-- A whole run of the engine.
use Rattle.std.specs.Prelude.{◌≡◌, ℕ, ◌+◌, ◌*◌, ◌≤◌, List, [], Option}
use Rattle.nr_units.specs.Source.{Supply}
use Rattle.nr_machine.specs.State.{State}
use Rattle.nr_machine.specs.Machine.{state_after}
use Rattle.nr_machine.specs.Holding.{Shape, Holds, Finishes, worth}
use Rattle.nr_machine.specs.Run.{Kind, Over}
use Rattle.nr_machine.specs.declared.outcome.Measure.TheVariants.{Moves}
use Rattle.nr_machine.specs.declared.outcome.Outcome.{Outcome}
use Rattle.nr_machine.specs.declared.outcome.Outcome.TheVariants.{Done, Limit}

-- At whatever state the engine held, moves were made up to where the run ends as the outcome says: of a run
-- that may make so many at most, and had made `before`.
pub record Travelled (most : ℕ) (s : State) (before after : ℕ) (a_byte : ℕ) (outcome : Outcome)
    (old new : Option (List ℕ)) : Type 0 where
  pub count : ℕ
  pub counted : after ≡ before + count
  pub finishes : Finishes most after s count outcome old new
  pub bound : after ≤ a_byte * ((state_after count s).coming.taken + 1)

abbrev pub Travels : ℕ → Shape → Option Supply → Option (List ℕ) → Option (List ℕ) → ℕ → ℕ → Outcome → Type 0
Travels most e supply old new before after outcome =
    (s : State) → Holds [] supply s e → Travelled most s before after (worth e) outcome old new

-- How a run ends that has made all moves that it may make, by the kind of the next one and how many bytes
-- were taken.
abbrev pub outcome_when_spent : Kind → ℕ → Outcome
outcome_when_spent Over at = Done
outcome_when_spent k at = Limit Moves at
