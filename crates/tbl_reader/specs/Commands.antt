-- Lines that tbl obeys (Tbl, "Usage"; tbl(1), "Description"): `.TS`, `.TE` and `.T&`.
use Rattle.std.specs.Prelude.{ℕ, List, [], ◌∷◌, Bool, true, false, not, ◌==◌, ◌&&◌, ◌||◌, if◌then◌else◌}
use Prim.Native.Char.{code}
use Rattle.tbl_reader.specs.Passing.{may_command}
use Rattle.tbl_reader.specs.declared.command.Start.{Start}
use Rattle.tbl_reader.specs.declared.command.Start.TheVariants.{Nothing, Dot, DotT, Name, Command, Other}

-- what may stand after the name of a command: a blank, a tab or a backslash
abbrev pub ends_name : ℕ → Bool
ends_name b = (b == code " ") || (b == code "\t") || (b == code "\\")

-- a line is the command `.T` and this letter
abbrev pub is_command : ℕ → List ℕ → Bool
is_command letter [] = false
is_command letter (a ∷ []) = false
is_command letter (a ∷ b ∷ []) = false
is_command letter (a ∷ b ∷ c ∷ []) = (a == code ".") && (b == code "T") && (c == letter)
is_command letter (a ∷ b ∷ c ∷ d ∷ rest) = (a == code ".") && (b == code "T") && (c == letter) && ends_name d

-- ---- the beginning of a line, as far as it may be a command

abbrev pub start_if : Bool → Start → Start
start_if holds start = if holds then start else Other

abbrev pub start_with : ℕ → ℕ → Start → Start
start_with letter b Nothing = start_if (b == code ".") Dot
start_with letter b Dot = start_if (b == code "T") DotT
start_with letter b DotT = start_if (b == letter) Name
start_with letter b Name = start_if (ends_name b) Command
start_with letter b Command = Command
start_with letter b Other = Other

abbrev pub start_after : ℕ → List ℕ → Start → Start
start_after letter [] s = s
start_after letter (b ∷ bs) s = start_after letter bs (start_with letter b s)

abbrev pub start_of : ℕ → List ℕ → Start
start_of letter bytes = start_after letter bytes Nothing

abbrev pub begins_command : Start → Bool
begins_command Name = true
begins_command Command = true
begins_command start = false

-- a line that begins so, and goes on with these bytes, is none
abbrev pub is_free : Start → List ℕ → Bool
is_free Nothing bytes = not (may_command bytes)
is_free Other bytes = true
is_free start bytes = false
