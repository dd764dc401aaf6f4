-- Bytes that are gathered before they go out to a sink.
use Rattle.std.specs.Prelude.{◌≡◌, ℕ, List, ◌++◌, Option, Result, Ok, Err}
use Rattle.std.specs.Io.KnownBytes.{Appends}
use Rattle.nr_units.specs.Sink.{AppendsPrefix}

-- bs came after the pending bytes; of all these a prefix went out, and the others are still pending
pub record Gathers (old new : Option (List ℕ)) (pending left bs : List ℕ) : Type 0 where
  pub out : List ℕ
  pub went_out : Appends old new out
  pub all : pending ++ bs ≡ out ++ left

-- the same after a call that answered r: with an error, no more than a prefix went out
abbrev pub GathersOrFails : {E : Type 0} → Option (List ℕ) → Option (List ℕ) → List ℕ → List ℕ → List ℕ
    → Result (Unit {0}) E → Type 0
GathersOrFails old new pending left bs (Ok x) = Gathers old new pending left bs
GathersOrFails old new pending left bs (Err e) = AppendsPrefix old new (pending ++ bs)
