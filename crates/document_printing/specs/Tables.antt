-- Whether a page has tables. (tbl(1))
use Prim.Native.Char.{code}
use Rattle.std.specs.Prelude.{ℕ, List, [], ◌∷◌, Bool, true, false, ◌==◌, ◌&&◌, ◌||◌, if◌then◌else◌}

-- a line begins with `.TS`
abbrev pub begins_table : List ℕ → Bool
begins_table (point ∷ first ∷ second ∷ rest) = point == code "." && (first == code "T" && second == code "S")
begins_table other = false

-- of a line that begins here, if one does
abbrev pub table_at : Bool → List ℕ → Bool
table_at begins text = if begins then begins_table text else false

-- the rest of a page, from the beginning of a line or from within one
abbrev pub has_table : Bool → List ℕ → Bool
has_table begins [] = false
has_table begins (byte ∷ bytes) = table_at begins (byte ∷ bytes) || has_table (byte == code "\n") bytes

-- some line of the page begins with it
abbrev pub has_tables : List ℕ → Bool
has_tables page = has_table true page
