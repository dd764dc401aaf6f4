-- Bytes that stand together in whole cells: those of one byte, and those of three that are struck.
use Prim.Native.Char.{code}
use Rattle.std.specs.Prelude.{◌≡◌, ℕ, ◌+◌, ◌<◌, List, get_or, Bool, true, not, ◌==◌, ◌&&◌, ◌||◌, nat_le}
use Rattle.std.specs.Prelude.{nat_lt}
use Rattle.utf8_converter.specs.Cells.{is_shown}

-- one of ASCII that is shown, or one beyond ASCII
abbrev pub may_stand : ℕ → Bool
may_stand b = nat_le 128 b || is_shown b

-- a backspace between two of which the second may be struck over the first
abbrev pub is_backed : ℕ → ℕ → ℕ → Bool
is_backed before b following =
    (b == 8) && ((before == following) || (before == code "_")) && nat_lt (code " ") following

-- what may stand between these two: no backspace stands after one of another cell
abbrev pub is_shaped : ℕ → ℕ → ℕ → Bool
is_shaped before b following =
    (may_stand b || is_backed before b following) && not ((before == following) && (following == 8))

abbrev pub StandAll : ℕ → List ℕ → Type 0
StandAll n bytes = (k : ℕ) → k < n → may_stand (get_or bytes k 0) ≡ true

-- the first may stand anywhere, and each of the n after it where it stands
pub record Shapes (n : ℕ) (bytes : List ℕ) : Type 0 where
  pub first : may_stand (get_or bytes 0 0) ≡ true
  pub each : (k : ℕ) → k < n
      → is_shaped (get_or bytes k 0) (get_or bytes (k + 1) 0) (get_or bytes (k + 2) 0) ≡ true
