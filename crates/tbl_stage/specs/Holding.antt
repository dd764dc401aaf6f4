-- Bytes in memory of their own, or none.
use Rattle.std.specs.Prelude.{ℕ, [], Option, None, Some}
use Rattle.nr_vectors.specs.Items.{Items}

-- without memory there is room for nothing
abbrev pub nothing : Items ℕ
nothing = record { items = []; capacity = 0 }

abbrev pub items_of : Option (Items ℕ) → Items ℕ
items_of None = nothing
items_of (Some held) = held
