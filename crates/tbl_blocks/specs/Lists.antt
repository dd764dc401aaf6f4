-- Lists in room that is lent: what lies beyond it is not there.
use Rattle.std.specs.Prelude.{List, [], ◌∷◌, ◌++◌, length, nat_lt, if◌then◌else◌}
use Rattle.nr_vectors.specs.Items.{Items}

-- with one more, if there is room
abbrev pub added : {T : Type 0} → T → Items T → Items T
added x xs =
    record xs { items = if nat_lt (length xs.items) xs.capacity then xs.items ++ x ∷ [] else xs.items }

-- with these in order, as far as there is room
abbrev pub added_all : {T : Type 0} → List T → Items T → Items T
added_all [] xs = xs
added_all (y ∷ ys) xs = added_all ys (added y xs)
