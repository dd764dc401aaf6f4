-- A coded text comes back, with points in it, and nothing else.
use Rattle.std.specs.Prelude.{◌≡◌, ℕ, List, [], ◌∷◌, ◌++◌, Bool, true, not, ◌&&◌, map, codes, if◌then◌else◌}
use Rattle.utf8_own_characters.specs.declared.cluster.Cluster.{Cluster}
use Rattle.utf8_own_characters.specs.declared.listening.Listener.{Listener}
use Rattle.utf8_own_characters.specs.declared.listening.Listened.{Listened}
use Rattle.utf8_own_characters.specs.Breaking.{is_east_asian}
use Rattle.utf8_own_characters.specs.Cluster.{single}
use Rattle.utf8_own_characters.specs.Decoding.{listed}
use Rattle.utf8_own_characters.specs.Listening.{first, read}
use Rattle.utf8_own_characters.specs.Reading.{decode, list_of}
use Rattle.utf8_own_characters.specs.Table.{Characters, Good, covers}
use Rattle.utf8_own_stage.specs.declared.points.Place.{Place}
use Rattle.utf8_own_stage.specs.Coding.{coded_text}
use Rattle.utf8_own_stage.specs.Points.{first_place, is_waiting, left, newline, passed, point, read_as, text_of}

-- the cluster that ends, and then a character of ASCII
abbrev pub cells_of : Listened → List Cluster
cells_of l = list_of l.done ++ map single (listed l.byte)

abbrev pub cells_from : Listener → List ℕ → List Cluster
cells_from l [] = list_of l.held
cells_from l (b ∷ bs) = cells_of (read l b) ++ cells_from (read l b).listener bs

-- the letters with their marks, and the other characters of ASCII, of a text
abbrev pub cells_in : List ℕ → List Cluster
cells_in = cells_from first

-- ---- the same with points

abbrev pub cell_at : Place → Cluster → List Cluster
cell_at p c = map single (text_of p.waits (point p (read_as c))) ++ (if is_waiting (passed p (read_as c)).waits then [] else c ∷ [])

abbrev pub pointed_from : Place → List Cluster → List Cluster
pointed_from p [] = map single (left p)
pointed_from p (c ∷ cs) = cell_at p c ++ pointed_from (passed p (read_as c)) cs

abbrev pub pointed : List Cluster → List Cluster
pointed = pointed_from first_place

-- where a table has all of them, the bytes of a text are read back as these
abbrev pub ComesBack : Type 0
ComesBack = (t : Characters) (text : List ℕ) → Good t → covers t (cells_in text) ≡ true
    → decode t (coded_text t true text) ≡ pointed (cells_in text)

-- Of cells and these cells with points: each stands once and in order, and before it `\(zb`, or `\(zj` before
-- a newline, or nothing.
pub data WithPoints : List Cluster → List Cluster → Type 0 where
  ends : WithPoints [] []
  same : (c : Cluster) {cs ds : List Cluster} → WithPoints cs ds → WithPoints (c ∷ cs) (c ∷ ds)
  joint : {cs ds : List Cluster} → WithPoints cs ds → WithPoints (single newline ∷ cs) (map single (codes "\\(zj\n") ++ ds)
  cut : {cs ds : List Cluster} → WithPoints cs ds → WithPoints cs (map single (codes "\\(zb") ++ ds)

abbrev pub OnlyPoints : Type 0
OnlyPoints = (cs : List Cluster) → WithPoints cs (pointed cs)

abbrev pub are_western : List Cluster → Bool
are_western [] = true
are_western (c ∷ cs) = not (is_east_asian c.letter) && are_western cs

-- among which no character is East Asian there is no point
abbrev pub NoPoints : Type 0
NoPoints = (cs : List Cluster) → are_western cs ≡ true → pointed cs ≡ cs
