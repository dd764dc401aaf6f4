-- Traps that are found below a place.
use Rattle.std.proofs.Common.{◌≡◌, ℕ, ◌≤◌, ◌<ℤ◌, Bool, true, false, List, [], ◌∷◌, Option, None, Some, cond, fold, ℤ, pos, negsuc, refl, arith}
use Rattle.std.proofs.lemmas.Bool.Decides.{nat_tests}
use Rattle.std.proofs.lemmas.Int.{ints}
use Rattle.std.specs.Prelude.{int_lt, IfSome}
use Rattle.nr_symbol_tables.specs.Trap.{on_page, is_ahead, lower, nearer, nearest}
use Rattle.nr_symbol_tables.specs.declared.trap.Trap.{Trap}

-- a trap that is found lies ahead
abbrev pub IsFound : ℤ → ℤ → Option Trap → Type 0
IsFound above length None = Unit {0}
IsFound above length (Some t) = is_ahead above length t.place ≡ true

pub found-lower : (above length : ℤ) (best : Option Trap) (t : Trap) → is_ahead above length t.place ≡ true → IsFound above length best →
    IsFound above length (lower best t)
found-lower above length None t h i = h
found-lower above length (Some b) t h i =
    elim (int_lt t.place b.place) as (λ v. IsFound above length (cond v (Some t) (Some b))) [ true ↦ h | false ↦ i ]

pub found-nearer_by : (above length : ℤ) (best : Option Trap) (t : Trap) (v : Bool) → is_ahead above length t.place ≡ v → IsFound above length best →
    IsFound above length (cond v (lower best t) best)
found-nearer_by above length best t true h i = found-lower above length best t h i
found-nearer_by above length best t false h i = i

pub found-fold : (above length : ℤ) (traps : List Trap) (best : Option Trap) → IsFound above length best →
    IsFound above length (fold (nearer above length) best traps)
found-fold above length [] best i = i
found-fold above length (t ∷ ts) best i =
    let u : Trap = record { place = on_page t.place length; name = t.name } in
    found-fold above length ts (nearer above length best t) (found-nearer_by above length best u (is_ahead above length u.place) refl i)

-- what is found below a place
pub IsFound_nearest : (above length : ℤ) (traps : List Trap) → IsFound above length (nearest above length traps)
IsFound_nearest above length traps = found-fold above length traps None tt

pub between_ahead : (above length : ℕ) (place : ℤ) → is_ahead (pos above) (pos length) place ≡ true → (pos above <ℤ place) × (place <ℤ pos length)
between_ahead above length (pos n) h = grind (arith, ints, nat_tests)
between_ahead above length (negsuc n) h = absurd (cc)

-- what is found lies between
pub between_found : (above length : ℕ) (r : Option Trap) → IsFound (pos above) (pos length) r →
    IfSome r (λ t. (pos above <ℤ t.place) × (t.place <ℤ pos length))
between_found above length None h = tt
between_found above length (Some t) h = between_ahead above length t.place h

pub between_nearest : (above length : ℕ) (traps : List Trap) →
    IfSome (nearest (pos above) (pos length) traps) (λ t. (pos above <ℤ t.place) × (t.place <ℤ pos length))
between_nearest above length traps = between_found above length _ (IsFound_nearest (pos above) (pos length) traps)

none_from : (above length : ℕ) (r : Option Trap) → length ≤ above → IfSome r (λ t. (pos above <ℤ t.place) × (t.place <ℤ pos length)) → r ≡ None
none_from above length None h i = refl
none_from above length (Some t) h i = absurd (omega (arith, ints))

-- at the bottom or below it none is found
pub nearest-beyond : (above length : ℕ) (traps : List Trap) → length ≤ above → nearest (pos above) (pos length) traps ≡ None
nearest-beyond above length traps h = none_from above length _ h (between_nearest above length traps)
