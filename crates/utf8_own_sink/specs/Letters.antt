-- Letters with their marks are printed in UTF-8, plain, underlined or bold. (groff manual, grotty; less(1);
-- ul(1).)
use Prim.Native.Char.{code}
use Rattle.std.specs.Char.{encode_utf8}
use Rattle.std.specs.Prelude.{ℕ, List, [], ◌∷◌, ◌++◌, Bool, true, false, not, ◌==◌, ◌&&◌, ◌||◌, nat_le}
use Rattle.std.specs.Prelude.{if◌then◌else◌}
use Rattle.nr_vectors.specs.declared.cell.Look.{Look}
use Rattle.nr_vectors.specs.declared.cell.Look.TheVariants.{Plain, Under, Bold}
use Rattle.utf8_converter.specs.Cells.{closing, is_same, opening}
use Rattle.utf8_own_characters.specs.Cluster.{blank}
use Rattle.utf8_own_characters.specs.declared.cluster.Cluster.{Cluster}
use Rattle.utf8_own_sink.specs.declared.letters.Way.{Way}
use Rattle.utf8_own_sink.specs.declared.letters.Way.TheVariants.{Backspaces, Escapes}

-- a letter with its marks, and how it looks
pub record Letter : Type 0 where
  pub cluster : Cluster
  pub look : Look

abbrev pub letter : Cluster → Look → Letter
letter c look = record { cluster = c; look = look }

-- ---- its text

-- a mark, if it is one
abbrev pub mark_text : ℕ → List ℕ
mark_text m = if m == 0 then [] else encode_utf8 m

-- a letter and its marks
abbrev pub text_of : Cluster → List ℕ
text_of c = encode_utf8 c.letter ++ mark_text c.first_mark ++ mark_text c.second_mark ++ mark_text c.third_mark

-- a control character but a newline isn't shown
abbrev pub is_shown : Cluster → Bool
is_shown c = (c.letter == 10) || (nat_le 32 c.letter && not (c.letter == 127))

-- a blank and a newline are plain
abbrev pub look_of : Cluster → Look → Look
look_of c look = if nat_le c.letter 32 then Plain else look

-- ---- its look

-- it is struck over `_` or itself
abbrev pub struck_text : Cluster → Look → List ℕ
struck_text c Plain = []
struck_text c Under = code "_" ∷ 8 ∷ []
struck_text c Bold = text_of c ++ 8 ∷ []

-- or stands after what ends one look and begins another
abbrev pub turned : Look → Look → List ℕ
turned was look = if is_same was look then [] else closing was ++ opening look

abbrev pub before : Way → Cluster → Look → List ℕ
before Backspaces c look = struck_text c look
before (Escapes was) c look = turned was look

abbrev pub way_to : Way → Look → Way
way_to Backspaces look = Backspaces
way_to (Escapes was) look = Escapes look

-- ---- letters are printed

abbrev pub drawn : Way → Letter → List ℕ
drawn way l = if is_shown l.cluster then before way l.cluster (look_of l.cluster l.look) ++ text_of l.cluster else []

abbrev pub way_past : Way → Letter → Way
way_past way l = if is_shown l.cluster then way_to way (look_of l.cluster l.look) else way

-- a look that is open ends after all letters
abbrev pub ends_look : Way → List ℕ
ends_look Backspaces = []
ends_look (Escapes was) = turned was Plain

abbrev pub printed : Way → List Letter → List ℕ
printed way [] = ends_look way
printed way (l ∷ ls) = drawn way l ++ printed (way_past way l) ls

-- what is plain goes out as it is
abbrev pub is_plain : Way → Bool
is_plain Backspaces = true
is_plain (Escapes look) = is_same look Plain

abbrev pub first_way : Bool → Way
first_way escapes = if escapes then Escapes Plain else Backspaces
