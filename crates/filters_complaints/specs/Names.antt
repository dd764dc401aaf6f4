-- Names of a text as they are reported (ASCII: the bytes from the blank to the tilde print).
use Rattle.std.specs.Prelude.{ℕ, List, map, Bool, ◌&&◌, nat_le, if◌then◌else◌}
use Prim.Native.Char.{code}

abbrev pub is_printing : ℕ → Bool
is_printing b = nat_le (code " ") b && nat_le b (code "~")

-- one that doesn't print stands as `?`
abbrev pub printable_byte : ℕ → ℕ
printable_byte b = if is_printing b then b else code "?"

abbrev pub printable : List ℕ → List ℕ
printable name = map printable_byte name
