-- Tab stops as they lie in memory.
use Rattle.std.specs.Prelude.{◌≡◌, ℕ, ◌≤◌, List, length}
use Rattle.nr_settings.specs.declared.stops.Stop.{Stop}

-- 32 places, of which the first few are stops
pub record AreStops (places : List Stop) (count : ℕ) : Type 0 where
  pub within : count ≤ 32
  pub whole : length places ≡ 32
