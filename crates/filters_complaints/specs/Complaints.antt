-- The complaints about a text: the first of them, as many as there is room for, and whether there were more.
use Rattle.std.specs.Prelude.{ℕ, List, [], ◌∷◌, ◌++◌, length, Bool, true, false, ◌==◌, if◌then◌else◌}
use Rattle.nr_vectors.specs.Items.{Items}

pub record AllReported (C : Type 0) : Type 0 where
  pub first : Items C
  pub missed : Bool

abbrev pub none_reported : {C : Type 0} → ℕ → AllReported C
none_reported capacity = record { first = record { items = []; capacity = capacity }; missed = false }

abbrev pub with_complaint : {C : Type 0} → C → AllReported C → AllReported C
with_complaint c r = record r { first = record r.first { items = r.first.items ++ c ∷ [] } }

abbrev pub reported : {C : Type 0} → C → AllReported C → AllReported C
reported c r = if length r.first.items == r.first.capacity then record r { missed = true } else with_complaint c r
