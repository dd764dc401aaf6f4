-- What macros a text asks for. (man(7), macro overview; mdoc(7), manual structure.)
use Prim.Native.Char.{code}
use Rattle.std.specs.Prelude.{ℕ, List, [], ◌∷◌, drop, Bool, true, false, ◌==◌, ◌&&◌, ◌||◌, if◌then◌else◌}
use Rattle.std.specs.List.{prefix_len}
use Rattle.program_plan.specs.declared.kinds.LineKind.{LineKind}
use Rattle.program_plan.specs.declared.kinds.LineKind.TheVariants.{Manual, Table, Other}

abbrev pub is_blank : ℕ → Bool
is_blank byte = byte == code " " || byte == code "\t"

-- a name ends before these bytes
abbrev pub is_end : List ℕ → Bool
is_end [] = true
is_end (byte ∷ bytes) = is_blank byte || byte == code "\n"

-- what two letters name: `TH` and `Dd` the title of a manual page, `TS` a table
abbrev pub kind_of : ℕ → ℕ → LineKind
kind_of first second =
    if (first == code "T" && second == code "H") || (first == code "D" && second == code "d") then Manual else
    if first == code "T" && second == code "S" then Table else Other

abbrev pub kind_named : List ℕ → LineKind
kind_named (first ∷ second ∷ rest) = if is_end rest then kind_of first second else Other
kind_named other = Other

-- what a line says: a point or an apostrophe, blanks, and the name
abbrev pub line_kind : List ℕ → LineKind
line_kind [] = Other
line_kind (byte ∷ bytes) =
    if byte == code "." || byte == code "'" then kind_named (drop (prefix_len is_blank bytes) bytes) else Other

-- the first line that says something decides
abbrev pub decides : LineKind → Bool → Bool
decides Manual rest = true
decides Table rest = false
decides Other rest = rest

-- what a line says that begins here, if one does
abbrev pub kind_at : Bool → List ℕ → LineKind
kind_at begins text = if begins then line_kind text else Other

-- the rest of a text, from the beginning of a line or from within one
abbrev pub asks : Bool → List ℕ → Bool
asks begins [] = false
asks begins (byte ∷ bytes) =
    decides (kind_at begins (byte ∷ bytes)) (asks (byte == code "\n") bytes)

-- the text asks for the macros of manual pages
abbrev pub is_manual : List ℕ → Bool
is_manual text = asks true text
