-- What has names, in the order of the names.
use Rattle.std.specs.Prelude.{ℕ, Bool, if◌then◌else◌, List, [], ◌∷◌, Option, Some, None, is_some}
use Rattle.std.specs.Ordering.{is_eq, is_lt}
use Rattle.nr_units.specs.Name.{name_order}

-- a value under a name
pub record Named (X : Type 0) : Type 0 where
  pub name : List ℕ
  pub value : X

-- whether two names are one
abbrev pub is_same : List ℕ → List ℕ → Bool
is_same a b = is_eq (name_order a b)

-- whether a name comes before another
abbrev pub is_before : List ℕ → List ℕ → Bool
is_before a b = is_lt (name_order a b)

-- what has this name
abbrev pub find : {X : Type 0} → List ℕ → List (Named X) → Option X
find name [] = None
find name (e ∷ es) = if is_same e.name name then Some e.value else find name es

-- another value for what has this name already
abbrev pub replaced : {X : Type 0} → List ℕ → X → List (Named X) → List (Named X)
replaced name x [] = []
replaced name x (e ∷ es) =
    if is_same e.name name then record { name = name; value = x } ∷ es else e ∷ replaced name x es

-- a new name, before the first that comes after it
abbrev pub inserted : {X : Type 0} → List ℕ → X → List (Named X) → List (Named X)
inserted name x [] = record { name = name; value = x } ∷ []
inserted name x (e ∷ es) = if is_before name e.name then record { name = name; value = x } ∷ (e ∷ es)
    else e ∷ inserted name x es

-- the list where this name has this value
abbrev pub put : {X : Type 0} → List ℕ → X → List (Named X) → List (Named X)
put name x es = if is_some (find name es) then replaced name x es else inserted name x es

-- the list where nothing has this name
abbrev pub without : {X : Type 0} → List ℕ → List (Named X) → List (Named X)
without name [] = []
without name (e ∷ es) = if is_same e.name name then es else e ∷ without name es
