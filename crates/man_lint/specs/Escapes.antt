-- The escapes of a line: their letters, and the names of strings.
use Rattle.std.specs.Prelude.{ℕ, [], ◌∷◌, Bool, true, false, ◌==◌, ◌||◌, if◌then◌else◌}
use Prim.Native.Char.{code}
use Rattle.man_lint.specs.Names.{grown, is_escape}
use Rattle.man_lint.specs.declared.escapes.Escape.{Escape}
use Rattle.man_lint.specs.declared.escapes.Escape.TheVariants as escapes
use Rattle.man_lint.specs.declared.escapes.Escaping.{Escaping}
use Rattle.man_lint.specs.declared.escapes.Found.{Found}
use Rattle.man_lint.specs.declared.escapes.Found.TheVariants as founds

abbrev pub none : Escaping
none = record { escape = escapes.Plain; name = [] }

abbrev pub nothing : Found
nothing = founds.Nothing

-- the name of a string is whole
abbrev pub whole : Found
whole = founds.String

abbrev pub is_begun : Escape → Bool
is_begun escapes.Begun = true
is_begun escape = false

abbrev pub at : Escape → Escaping → Escaping
at escape e = record e { escape = escape }

abbrev pub added : ℕ → Escaping → Escaping
added b e = record e { name = grown e.name b }

-- ---- after a backslash

abbrev pub begun : ℕ → Escaping → Escaping
begun b e = if b == code "*" then at escapes.String e else at escapes.Plain e

abbrev pub found_begun : ℕ → Found
found_begun b = if is_escape b then founds.Nothing else founds.Unknown

-- ---- the name of a string: `\*x`, `\*(xx`, `\*[name]`

abbrev pub string_begun : ℕ → Escaping → Escaping
string_begun b e =
    if b == code "(" then record { escape = escapes.Two; name = [] } else
    if b == code "[" then record { escape = escapes.Long; name = [] } else
    record { escape = escapes.Plain; name = b ∷ [] }

abbrev pub found_string : ℕ → Found
found_string b = if (b == code "(") || (b == code "[") then founds.Nothing else founds.String

abbrev pub two_begun : ℕ → Escaping → Escaping
two_begun b e = at escapes.One (added b e)

abbrev pub two_ended : ℕ → Escaping → Escaping
two_ended b e = at escapes.Plain (added b e)

abbrev pub ends_brackets : ℕ → Bool
ends_brackets b = (b == code "]") || (b == code " ")

abbrev pub in_brackets : ℕ → Escaping → Escaping
in_brackets b e = if ends_brackets b then at escapes.Plain e else added b e

abbrev pub found_in_brackets : ℕ → Found
found_in_brackets b = if ends_brackets b then founds.String else founds.Nothing

-- ---- a byte comes: an escape begins anew with each backslash that is not escaped

abbrev pub taken_at : Escape → ℕ → Escaping → Escaping
taken_at escapes.String b e = string_begun b e
taken_at escapes.Two b e = two_begun b e
taken_at escapes.One b e = two_ended b e
taken_at escapes.Long b e = in_brackets b e
taken_at escape b e = e

abbrev pub found_at : Escape → ℕ → Found
found_at escapes.String b = found_string b
found_at escapes.One b = founds.String
found_at escapes.Long b = found_in_brackets b
found_at escape b = founds.Nothing

abbrev pub taken : ℕ → Escaping → Escaping
taken b e =
    if is_begun e.escape then begun b e else
    if b == code "\\" then at escapes.Begun e else taken_at e.escape b e

abbrev pub found : ℕ → Escaping → Found
found b e =
    if is_begun e.escape then found_begun b else
    if b == code "\\" then founds.Nothing else found_at e.escape b
