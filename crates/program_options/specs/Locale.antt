-- What pages are printed in where no word says it. (POSIX, environment variables.)
use Prim.Native.Char.{code}
use Rattle.std.specs.Prelude.{ℕ, ◌-◌, List, [], ◌∷◌, slice_index, Bool, false, ◌==◌, ◌&&◌, ◌||◌, if◌then◌else◌}
use Rattle.program_options.specs.declared.plain.Device.{Device}
use Rattle.program_options.specs.declared.plain.Device.TheVariants.{Utf8, Ascii}

-- the first of LC_ALL, LC_CTYPE and LANG that is not empty
abbrev pub first_set : List ℕ → List ℕ → List ℕ → List ℕ
first_set (byte ∷ bytes) ctype lang = byte ∷ bytes
first_set [] (byte ∷ bytes) lang = byte ∷ bytes
first_set [] [] lang = lang

abbrev pub is_letter : ℕ → ℕ → Bool
is_letter letter byte = byte == letter || byte == letter - 32

-- the text begins with `utf8` or `utf-8`, in letters of any case
abbrev pub begins_utf8 : List ℕ → Bool
begins_utf8 text =
    is_letter (code "u") (slice_index text 0)
    && (is_letter (code "t") (slice_index text 1)
    && (is_letter (code "f") (slice_index text 2)
    && (slice_index text 3 == code "8" || (slice_index text 3 == code "-" && slice_index text 4 == code "8"))))

-- somewhere in it stands that name
abbrev pub has_utf8 : List ℕ → Bool
has_utf8 [] = false
has_utf8 (byte ∷ bytes) = begins_utf8 (byte ∷ bytes) || has_utf8 bytes

abbrev pub device_of : List ℕ → List ℕ → List ℕ → Device
device_of all ctype lang = if has_utf8 (first_set all ctype lang) then Utf8 else Ascii
