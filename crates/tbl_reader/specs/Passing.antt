-- Lines that pass whole.
use Rattle.std.specs.Prelude.{ℕ, suc, List, [], ◌∷◌, Bool, false, ◌==◌, ◌&&◌, ◌||◌, if◌then◌else◌}
use Prim.Native.Char.{code}

-- the bytes before the first newline
abbrev pub line_len : List ℕ → ℕ
line_len [] = 0
line_len (b ∷ bs) = if b == code "\n" then 0 else suc (line_len bs)

-- a line may begin with `.T`, or is a point alone
abbrev pub may_command : List ℕ → Bool
may_command [] = false
may_command (a ∷ []) = a == code "."
may_command (a ∷ b ∷ rest) = (a == code ".") && ((b == code "T") || (b == code "\n"))
