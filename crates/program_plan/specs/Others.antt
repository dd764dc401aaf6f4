-- What a text asks for that other programs do. (groff's soelim(1), eqn(1) and pic(1).)
use Prim.Native.Char.{code}
use Rattle.std.specs.Prelude.{ℕ, List, [], ◌∷◌, drop, Bool, true, false, ◌==◌, ◌&&◌, ◌||◌, if◌then◌else◌}
use Rattle.std.specs.List.{prefix_len}
use Rattle.program_plan.specs.Kinds.{is_blank, is_end}

-- `so` another file, `EQ` equations, `PS` pictures
abbrev pub is_other : ℕ → ℕ → Bool
is_other first second =
    (first == code "s" && second == code "o")
    || (first == code "E" && second == code "Q")
    || (first == code "P" && second == code "S")

abbrev pub is_other_name : List ℕ → Bool
is_other_name (first ∷ second ∷ rest) = if is_end rest then is_other first second else false
is_other_name other = false

-- the line that comes: a point or an apostrophe, blanks, and the name
abbrev pub is_other_line : List ℕ → Bool
is_other_line [] = false
is_other_line (byte ∷ bytes) =
    if byte == code "." || byte == code "'" then is_other_name (drop (prefix_len is_blank bytes) bytes) else false

-- of a line that begins here, if one does
abbrev pub asks_at : Bool → List ℕ → Bool
asks_at begins text = if begins then is_other_line text else false

-- the rest of a text, from the beginning of a line or from within one
abbrev pub asks_for_one : Bool → List ℕ → Bool
asks_for_one begins [] = false
asks_for_one begins (byte ∷ bytes) = asks_at begins (byte ∷ bytes) || asks_for_one (byte == code "\n") bytes

-- some line of the text asks for another program
abbrev pub asks_for_others : List ℕ → Bool
asks_for_others text = asks_for_one true text
