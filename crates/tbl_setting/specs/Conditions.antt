-- Conditions of lines outside of tables (CSTR 54, Conditional Acceptance of Input), as far as it is known that they hold or fail: `n` holds
-- and `t` fails, and preconv writes 1 for `\n(.g`.
use Rattle.std.specs.Prelude.{ℕ, Bool, false, not, ◌==◌, ◌&&◌, ◌||◌, List, ◌∷◌, codes, if◌then◌else◌}
use Prim.Native.Char.{code}
use Rattle.std.specs.Str.{bytes_eq}
use Rattle.tbl_setting.specs.Arguments.{argument}

abbrev pub holds : List ℕ → Bool
holds condition = bytes_eq condition (codes "n") || bytes_eq condition (codes "1")

abbrev pub fails : List ℕ → Bool
fails condition = bytes_eq condition (codes "t") || bytes_eq condition (codes "0")

-- `.if` or `.ie`
abbrev pub is_conditional : List ℕ → Bool
is_conditional (a ∷ b ∷ c ∷ cs) = (a == code "i") && (((b == code "f") || (b == code "e")) && (c == code " "))
is_conditional request = false

-- `.ie`
abbrev pub is_choice : List ℕ → Bool
is_choice (a ∷ b ∷ c ∷ cs) = (a == code "i") && ((b == code "e") && (c == code " "))
is_choice request = false

-- `.el`
abbrev pub is_otherwise : List ℕ → Bool
is_otherwise (a ∷ b ∷ c ∷ cs) = (a == code "e") && ((b == code "l") && (c == code " "))
is_otherwise request = false

-- a request that is not done, where the condition of the last `.ie` held or not
abbrev pub is_left_out : List ℕ → Bool → Bool
is_left_out request held =
    if is_conditional request then fails (argument request 0) else held && is_otherwise request

-- whether after it the condition of the last `.ie` held: `.el` ends that
abbrev pub held_after : List ℕ → Bool → Bool
held_after request held = if is_choice request then holds (argument request 0) else held && not (is_otherwise request)
