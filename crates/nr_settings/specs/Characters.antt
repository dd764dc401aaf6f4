-- Control characters, and which bytes print (CSTR 54, input and output conventions; control characters).
use Prim.Native.Char.{code}
use Rattle.std.specs.Prelude.{ℕ, Bool, not, ◌&&◌, List, ◌==◌, nat_le, Option, Some, None, pos, unwrap_or, if◌then◌else◌}
use Rattle.nr_units.specs.declared.units.Scale.TheVariants.{Unit as OneUnit}
use Rattle.nr_settings.specs.Arguments.{byte_in}
use Rattle.nr_settings.specs.Numbers.{first_value, is_zero}

-- one cell each: all bytes but the control bytes
abbrev pub prints : ℕ → Bool
prints byte = nat_le (code " ") byte && not (byte == 127)

-- a byte that prints, as what a tab or leader repeats
abbrev pub printing : Option ℕ → Option ℕ
printing None = None
printing (Some byte) = if prints byte then Some byte else None

-- `.cc c`, `.c2 c`: the control character and the one without a break; without c `.` and `'`
abbrev pub cc : List ℕ → ℕ
cc line = unwrap_or (byte_in line) (code ".")

abbrev pub c2 : List ℕ → ℕ
c2 line = unwrap_or (byte_in line) (code "'")

-- `.cp N` (groff, implementation differences): long names are on where N is 0
abbrev pub cp : List ℕ → ℕ → Bool
cp line v = is_zero (first_value OneUnit v (pos 0) line)
