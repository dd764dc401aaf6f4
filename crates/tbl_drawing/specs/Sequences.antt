-- What the first numbers give together.
use Rattle.std.specs.Prelude.{ℕ, zero, suc, Bool, true, false, ◌&&◌, ◌||◌, List, [], ◌++◌, Option, None, Some}
use Rattle.tbl_table.specs.Sums.{sum}

-- lists, one after the other
abbrev pub joined : {A : Type 0} → ℕ → (ℕ → List A) → List A
joined zero given = []
joined (suc n) given = joined n given ++ given n

-- numbers, on top of one
abbrev pub total : ℕ → ℕ → (ℕ → ℕ) → ℕ
total start zero given = start
total start (suc n) given = sum (total start n given) (given n)

-- whether one of them is so, or all are
abbrev pub some_below : ℕ → (ℕ → Bool) → Bool
some_below zero given = false
some_below (suc n) given = some_below n given || given n

abbrev pub all_below : ℕ → (ℕ → Bool) → Bool
all_below zero given = true
all_below (suc n) given = all_below n given && given n

abbrev pub or_given : {A : Type 0} → Option A → Option A → Option A
or_given None other = other
or_given (Some x) other = Some x

-- the first that one of them has
abbrev pub first_of : {A : Type 0} → ℕ → (ℕ → Option A) → Option A
first_of zero given = None
first_of (suc n) given = or_given (first_of n given) (given n)
