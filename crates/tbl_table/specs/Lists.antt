-- Lists in room that is lent: what lies beyond it is not there.
use Rattle.std.specs.Prelude.{ℕ, zero, suc, [], ◌∷◌, ◌++◌, length, nat_lt, slice_set, if◌then◌else◌}
use Rattle.nr_vectors.specs.Items.{Items}

-- with one more, if there is room
abbrev pub added : {T : Type 0} → T → Items T → Items T
added x xs =
    record xs { items = if nat_lt (length xs.items) xs.capacity then xs.items ++ x ∷ [] else xs.items }

-- with another at a place, if there is one
abbrev pub put : {T : Type 0} → ℕ → T → Items T → Items T
put n x xs = record xs { items = slice_set xs.items n x }

-- with so many more of one
abbrev pub added_each : {T : Type 0} → ℕ → T → Items T → Items T
added_each zero x xs = xs
added_each (suc n) x xs = added x (added_each n x xs)

-- changed by the first numbers in turn
abbrev pub in_turn : {T : Type 0} → ℕ → (ℕ → T → T) → T → T
in_turn zero change x = x
in_turn (suc n) change x = change n (in_turn n change x)
