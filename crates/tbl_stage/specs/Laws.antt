-- What goes out of a page with tables in parts is what all of it comes to.
use Rattle.std.specs.Prelude.{◌≡◌, ℕ, List, ◌++◌, true, false}
use Rattle.tbl_setting.specs.Bounds.{Bounds}
use Rattle.tbl_setting.specs.Running.{set_page, set_so_far}
use Rattle.tbl_stage.specs.Staged.{first_held, has_all, said}

-- where there is room for all: with the end, or before it
abbrev pub TurnsWhole : Type 0
TurnsWhole = (most : ℕ) (b : Bounds) (bytes : List ℕ)
    → has_all most (first_held b) bytes ≡ true → said most (first_held b) true bytes ≡ set_page b bytes

abbrev pub TurnsSoFar : Type 0
TurnsSoFar = (most : ℕ) (b : Bounds) (bytes : List ℕ)
    → has_all most (first_held b) bytes ≡ true → said most (first_held b) false bytes ≡ set_so_far b bytes

-- and else a prefix of it
abbrev pub TurnsPrefix : Type 0
TurnsPrefix = (most : ℕ) (b : Bounds) (bytes : List ℕ)
    → (rest : List ℕ) × (said most (first_held b) true bytes ++ rest ≡ set_page b bytes)
