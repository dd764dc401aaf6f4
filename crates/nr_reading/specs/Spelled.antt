-- Names as far as they were read (CSTR 54, 7.5; the groff manual, Identifiers).
use Prim.Native.Char.{code}
use Rattle.std.specs.Prelude.{ℕ, ◌==◌, ◌||◌, nat_le, Bool, true, false, if◌then◌else◌, List, [], ◌∷◌, ◌++◌}
use Rattle.nr_units.specs.Name.{is_full}
use Rattle.nr_reading.specs.declared.spelled.Spelled.{Spelled}

-- a blank is a space or a tab
abbrev pub is_blank : ℕ → Bool
is_blank b = (b == code " ") || (b == code "\t")

-- a blank, a newline or another control byte
abbrev pub ends_name : ℕ → Bool
ends_name b = nat_le b (code " ") || (b == 127)

abbrev pub nothing_spelled : Spelled
nothing_spelled = record { bytes = []; bad = false }

-- with one byte more; a name that is too long is read whole
abbrev pub spelled : ℕ → Spelled → Spelled
spelled b s = if is_full s.bytes then record s { bad = true } else record s { bytes = s.bytes ++ b ∷ [] }

-- a bad name is the empty one, which names nothing
abbrev pub name_of : Spelled → List ℕ
name_of s = if s.bad then [] else s.bytes

abbrev pub is_empty : List ℕ → Bool
is_empty [] = true
is_empty (b ∷ bs) = false
