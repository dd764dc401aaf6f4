-- Text without a table.
use Rattle.std.specs.Prelude.{ℕ, List, [], ◌∷◌, Bool, true, false, not, ◌==◌, ◌&&◌, ◌||◌}
use Prim.Native.Char.{code}
use Rattle.tbl_reader.specs.Commands.{ends_name}

-- the first line of these bytes is `.TS`
abbrev pub begins_table : List ℕ → Bool
begins_table [] = false
begins_table (a ∷ []) = false
begins_table (a ∷ b ∷ []) = false
begins_table (a ∷ b ∷ c ∷ []) = (a == code ".") && (b == code "T") && (c == code "S")
begins_table (a ∷ b ∷ c ∷ d ∷ rest) =
    (a == code ".") && (b == code "T") && (c == code "S") && ((d == code "\n") || ends_name d)

-- a line of the text is, from the beginning of a line or from the midst of one
abbrev pub has_table_from : Bool → List ℕ → Bool
has_table_from starts [] = false
has_table_from starts (b ∷ bs) = (starts && begins_table (b ∷ bs)) || has_table_from (b == code "\n") bs

abbrev pub has_table : List ℕ → Bool
has_table text = has_table_from true text

abbrev pub is_untouched : List ℕ → Bool
is_untouched text = not (has_table text)
