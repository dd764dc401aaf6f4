-- Hyphenation words (CSTR 54, `.hw`).
use Prim.Native.Char.{code}
use Rattle.std.specs.Prelude.{ℕ, ◌+◌, ◌-◌, ◌==◌, ◌||◌, ◌&&◌, not, Bool, if◌then◌else◌, List, [], ◌∷◌, ◌++◌, map, take, length, find, unwrap_or}
use Rattle.std.specs.Option.{option_map}
use Rattle.std.specs.List.{suffix_len}
use Rattle.std.specs.Str.{bytes_eq}
use Rattle.nr_vectors.specs.declared.cell.Cell.{Cell}

-- a word, and the places in it where it may be cut, each so many letters in
pub record Word : Type 0 where
  pub letters : List ℕ
  pub points : List ℕ

-- what a word is charged
abbrev pub word_weight : Word → ℕ
word_weight w = 16 + length w.letters

-- the letters of a word as it is given: all but its minus signs
abbrev pub letters_of : List ℕ → List ℕ
letters_of [] = []
letters_of (b ∷ bs) = if b == code "-" then letters_of bs else b ∷ letters_of bs

-- where its minus signs stand, each so many letters in, where so many came before
abbrev pub points_from : ℕ → List ℕ → List ℕ
points_from place [] = []
points_from place (b ∷ bs) =
    if b == code "-" then place ∷ points_from place bs else points_from (place + 1) bs

-- the word that is given so
abbrev pub word_of : List ℕ → Word
word_of given = record { letters = letters_of given; points = points_from 0 given }

-- the bytes of cells
abbrev pub bytes_of : List Cell → List ℕ
bytes_of cells = map (λ (x : Cell). x.byte) cells

-- a byte that may stand after a word: `.,;:!?)`
abbrev pub closes : ℕ → Bool
closes b =
    b == code "." || b == code "," || b == code ";" || b == code ":" || b == code "!" || b
    == code "?" || b == code ")"

-- the bytes of a word without those at its end
abbrev pub stem : List ℕ → List ℕ
stem bytes = take (length bytes - suffix_len closes bytes) bytes

-- whether bytes are a word, or that word with an `s` after it; a word of no letters is none
abbrev pub is_given : List ℕ → Word → Bool
is_given bytes w =
    not (length w.letters == 0) && (bytes_eq bytes w.letters || bytes_eq bytes (w.letters ++ code "s" ∷ []))

-- where a word may be cut: at the points of the latest of these, the latest first, that it is
abbrev pub points_of : List ℕ → List Word → List ℕ
points_of bytes words =
    unwrap_or (option_map (λ (w : Word). w.points) (find (is_given (stem bytes)) words)) []
