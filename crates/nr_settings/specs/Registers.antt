-- The arguments of `.nr` and `.af` (CSTR 54, number registers; groff, register formats).
use Prim.Native.Char.{code}
use Rattle.std.specs.Prelude.{ℕ, Bool, ◌&&◌, List, [], ◌∷◌, ◌==◌, nat_le, min, Option, Some, None, ℤ, pos, if◌then◌else◌}
use Rattle.std.specs.List.{prefix_len}
use Rattle.std.specs.Option.{option_map}
use Rattle.nr_units.specs.declared.number_text.Format.{Format}
use Rattle.nr_units.specs.declared.number_text.Format.TheVariants.{Arabic, LowerRoman, UpperRoman, LowerAlphabetic, UpperAlphabetic}
use Rattle.nr_units.specs.declared.units.Scale.TheVariants.{Unit as OneUnit}
use Rattle.nr_settings.specs.Arguments.{word_in, after_number, name_in, after_name}
use Rattle.nr_settings.specs.Numbers.{first_value, first_change}
use Rattle.nr_settings.specs.declared.numbers.Change.{Change}
use Rattle.nr_settings.specs.declared.registers.RegisterChange.{RegisterChange}
use Rattle.nr_settings.specs.declared.registers.FormatChange.{FormatChange}

-- `.nr R ±N M`: R takes the value N, and the step M where it is there. Without R or N nothing changes.
abbrev pub register_change : List ℕ → Option ℤ → Option Change → Option RegisterChange
register_change name step None = None
register_change name step (Some change) = Some (record { name = name; change = change; step = step })

abbrev pub nr_named : ℕ → List ℕ → Option (List ℕ) → Option RegisterChange
nr_named v rest None = None
nr_named v rest (Some name) =
    register_change name (first_value OneUnit v (pos 0) (after_number rest))
    (first_change OneUnit v (pos 0) rest)

abbrev pub nr : List ℕ → Bool → ℕ → Option RegisterChange
nr line long v = nr_named v (after_name long line) (name_in long line)

-- The format that a word names: so many digits, or i I a A, of which what follows is dropped. Any other is none.
abbrev pub is_digit : ℕ → Bool
is_digit b = nat_le (code "0") b && nat_le b (code "9")

abbrev pub format_of : List ℕ → Option Format
format_of [] = None
format_of (b ∷ bs) =
    if b == code "i" then Some LowerRoman
    else if b == code "I" then Some UpperRoman
    else if b == code "a" then Some LowerAlphabetic
    else if b == code "A" then Some UpperAlphabetic
    else if is_digit b then Some (Arabic (min 9 (prefix_len is_digit (b ∷ bs))))
    else None

-- `.af R c`: R takes the format c. Without R or c nothing changes.
abbrev pub af_named : List ℕ → Option (List ℕ) → Option FormatChange
af_named rest None = None
af_named rest (Some name) =
    option_map (λ format. record { name = name; format = format }) (format_of (word_in rest))

abbrev pub af : List ℕ → Bool → Option FormatChange
af line long = af_named (after_name long line) (name_in long line)
