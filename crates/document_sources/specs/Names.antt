-- What a line `.so NAME` names, and paths that lead nowhere but down. (groff(7), `so`.)
use Prim.Native.Char.{code}
use Rattle.std.specs.Prelude.{◌≡◌, ℕ, List, [], ◌∷◌, ◌++◌, take, drop, Bool, true, false, not, ◌==◌, ◌&&◌}
use Rattle.std.specs.Prelude.{◌||◌, Option, None, Some, if◌then◌else◌}
use Rattle.std.specs.List.{prefix_len}

-- ---- lines

abbrev pub is_blank : ℕ → Bool
is_blank byte = byte == code " " || byte == code "\t"

-- a byte of a word
abbrev pub is_word_byte : ℕ → Bool
is_word_byte byte = not (is_blank byte || byte == code "\n")

-- a word, if it is one
abbrev pub some_word : List ℕ → Option (List ℕ)
some_word [] = None
some_word (byte ∷ bytes) = Some (byte ∷ bytes)

-- the word that comes first, if one does
abbrev pub first_word : List ℕ → Option (List ℕ)
first_word bytes = some_word (take (prefix_len is_word_byte bytes) bytes)

abbrev pub after_blanks : List ℕ → List ℕ
after_blanks bytes = drop (prefix_len is_blank bytes) bytes

-- `so`, a blank or more, and the name
abbrev pub name_in : List ℕ → Option (List ℕ)
name_in (first ∷ second ∷ third ∷ rest) =
    if first == code "s" && second == code "o" && is_blank third then first_word (after_blanks rest) else None
name_in other = None

-- WHAT A LINE NAMES: a point or an apostrophe, blanks, `so`, blanks, and the name
abbrev pub so_name : List ℕ → Option (List ℕ)
so_name [] = None
so_name (byte ∷ bytes) = if byte == code "." || byte == code "'" then name_in (after_blanks bytes) else None

-- ---- paths

-- a part of a path is neither empty nor `..`
abbrev pub is_proper : List ℕ → Bool
is_proper [] = false
is_proper (first ∷ second ∷ []) = not (first == code "." && second == code ".")
is_proper other = true

-- the parts of a path between its slashes, of the first of which these bytes were read
abbrev pub are_proper : List ℕ → List ℕ → Bool
are_proper part [] = is_proper part
are_proper part (byte ∷ bytes) =
    if byte == code "/" then is_proper part && are_proper [] bytes else are_proper (part ++ byte ∷ []) bytes

-- none of the parts of a path is empty or `..`
abbrev pub is_inner : List ℕ → Bool
is_inner path = are_proper [] path

-- THE PATHS IN A FOLDER: its own, a slash, and a path that leads nowhere but down
pub record LiesIn (folder path : List ℕ) : Type 0 where
  pub rest : List ℕ
  pub path_is : path ≡ folder ++ code "/" ∷ rest
  pub inner : is_inner rest ≡ true
