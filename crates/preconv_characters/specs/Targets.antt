-- What characters beyond ASCII become.
use Prim.Native.Char.{code}
use lib.Utf8.{scalar}
use Rattle.std.specs.Char.{encode_utf8}
use Rattle.std.specs.Prelude.{ℕ, List, Bool, true, false, ◌&&◌, ◌||◌, nat_le, if◌then◌else◌, Option, None, Some}
use Rattle.utf8_characters.specs.declared.table.FixedTable.{FixedTable}
use Rattle.utf8_characters.specs.Tables.{byte_of}
use Rattle.preconv_characters.specs.declared.target.Target.{Target}
use Rattle.preconv_characters.specs.declared.target.Target.TheVariants.{Ascii, Bytes, Utf8}

-- the bytes of a table, or ASCII
abbrev pub target_of : Option FixedTable → Target
target_of None = Ascii
target_of (Some table) = Bytes table

abbrev pub is_utf8 : Target → Bool
is_utf8 Ascii = false
is_utf8 (Bytes table) = false
is_utf8 Utf8 = true

-- the byte of a character of the table in force
abbrev pub byte_in_force : Target → ℕ → Option ℕ
byte_in_force Ascii c = None
byte_in_force (Bytes table) c = byte_of table c
byte_in_force Utf8 c = None

-- a question mark for half of a pair of UTF-16, and for what is too great
abbrev pub shown : ℕ → ℕ
shown c = if scalar c then c else code "?"

-- a character itself, in UTF-8
abbrev pub itself : ℕ → List ℕ
itself c = encode_utf8 (shown c)

-- three bytes in UTF-8, beyond the signs that print nothing
abbrev pub is_long : ℕ → Bool
is_long c = (nat_le 0x2070 c && nat_le c 0xD7FF) || (nat_le 0xE000 c && nat_le c 0xFFFF)
