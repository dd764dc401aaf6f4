-- Where no line of a definition is read, a resume mark acts as a newline.
use Prim.Native.Char.{code}
use Rattle.std.proofs.Common.{◌≡◌, ℕ, refl}
use Rattle.nr_reading.specs.declared.mode.Mode.{Mode}
use Rattle.nr_reading.specs.declared.mode.Mode.TheVariants as modes
use Rattle.nr_reading.specs.declared.mode.Reading.{Reading}
use Rattle.nr_reading.specs.declared.mode.Signs.{Signs}
use Rattle.nr_reading.specs.declared.notes.Notes.{Notes}
use Rattle.nr_reading.specs.Reader.{read_by, read_over_by}

pub over_is_newline : (m : Mode) (s : Signs) (n : Notes) (r : Reading) → ((h : ℕ) → m ≡ modes.BodyStart h → ⊥) → read_by m (code "\n") s n r ≡ read_over_by m s n r
over_is_newline (modes.BodyStart h) s n r not_so = absurd (not_so h refl)
over_is_newline m s n r not_so = refl
