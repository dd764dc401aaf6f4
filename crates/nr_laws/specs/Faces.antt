-- What faces do to the output: one byte is struck over another, and nothing else.
use Rattle.std.specs.Prelude.{◌≡◌, ℕ, List, map}
use Rattle.nr_units.specs.Source.{Supply}
use Rattle.nr_page.specs.Faces.{struck_out, letters_underlined}
use Rattle.nr_page.specs.declared.faces.Faces.{Faces}
use Rattle.nr_page.specs.declared.faces.Faces.TheVariants.{Letters, All}
use Rattle.nr_options.specs.declared.options.Options.{Options}
use Rattle.nr_machine.specs.State.{State, Ended}
use Rattle.nr_laws.specs.Laws.{unlimited, unlimited_text}

-- the same, with these faces
abbrev pub with_faces : Faces → Options → Options
with_faces f options = record options { faces = f }

abbrev pub pages_with : Faces → List Ended → List Ended
pages_with f pages = map (λ (p : Ended). record p { faces = f }) pages

abbrev pub facing : Faces → State → State
facing f s = record s { faces = f; pages = pages_with f s.pages }

-- With other faces the states of a run are the same but for these.
abbrev pub FacesOnlyShow : Type 0
FacesOnlyShow = (f : Faces) (options : Options) (supply : Supply) (n : ℕ)
    → unlimited (with_faces f options) supply n ≡ facing f (unlimited options supply n)

-- Without what is struck over, the output is the same with any faces.
abbrev pub StruckOutIsSame : Type 0
StruckOutIsSame =
    (f g : Faces) (options : Options) (supply : Supply) (n : ℕ)
    → struck_out (unlimited_text (with_faces f options) supply n)
    ≡ struck_out (unlimited_text (with_faces g options) supply n)

-- With letters and digits alone underlined, and nothing bold, it is that without faces.
abbrev pub LettersAreLeft : Type 0
LettersAreLeft =
    (options : Options) (supply : Supply) (n : ℕ)
    → letters_underlined (unlimited_text (with_faces All options) supply n)
    ≡ unlimited_text (with_faces Letters options) supply n
