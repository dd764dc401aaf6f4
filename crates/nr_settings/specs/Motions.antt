-- Horizontal motions and lines (CSTR 54, local horizontal motions; line drawing).
use Prim.Native.Char.{code}
use Rattle.std.specs.Prelude.{ℕ, ◌/◌, List, [], ◌∷◌, ◌==◌, drop, Option, Some, None, ℤ, pos, int_lt, unwrap_or, if◌then◌else◌}
use Rattle.nr_units.specs.Units.{nearest_multiple}
use Rattle.nr_units.specs.LongestPrefix.{read_of}
use Rattle.nr_units.specs.declared.units.Scale.TheVariants.{Em}
use Rattle.nr_units.specs.declared.expression.Read.{Read}
use Rattle.nr_settings.specs.Characters.{prints}
use Rattle.nr_settings.specs.Lengths.{width_from}
use Rattle.nr_settings.specs.Numbers.{context}
use Rattle.nr_settings.specs.declared.motions.Repeated.{Repeated}

-- N rounded to a multiple of 24, 32760 at most; none where it is absent, invalid or negative
abbrev pub motion_by : Option ℤ → Option ℕ
motion_by None = None
motion_by (Some units) =
    if int_lt (nearest_multiple 24 units) (pos 0) then None else Some (width_from 0 units)

-- `\h'N'`: the width
abbrev pub motion : ℕ → ℤ → List ℕ → Option ℕ
motion v here argument = motion_by (read_of (context Em v here) argument).value

-- `\l'Nc'`: c after the number, without c `_`. A `\&` before c is dropped; another escape, or a byte that prints
-- nothing, gives `_`.
abbrev pub first_printing : List ℕ → ℕ
first_printing [] = code "_"
first_printing (b ∷ bs) = if b == code "\\" then code "_" else if prints b then b else code "_"

abbrev pub after_ampersand : List ℕ → ℕ
after_ampersand [] = code "_"
after_ampersand (b ∷ bs) = if b == code "&" then first_printing bs else code "_"

abbrev pub rule_byte : List ℕ → ℕ
rule_byte [] = code "_"
rule_byte (b ∷ bs) = if b == code "\\" then after_ampersand bs else first_printing (b ∷ bs)

abbrev pub rule_read : List ℕ → Read → Repeated
rule_read argument read =
    record { cells = unwrap_or (motion_by read.value) 0 / 24; byte = rule_byte (drop read.used argument) }

abbrev pub rule : ℕ → ℤ → List ℕ → Repeated
rule v here argument = rule_read argument (read_of (context Em v here) argument)
