-- What formats say, byte after byte.
use Rattle.std.proofs.Common.{◌≡◌, ℕ, List, [], ◌∷◌, subst, ap, sym}
use Rattle.tbl_reader.specs.declared.formats.Called.{Called}
use Rattle.tbl_reader.specs.declared.formats.Formats.{Formats}
use Rattle.tbl_reader.specs.declared.telling.Tell.TheVariants as tells
use Rattle.tbl_reader.specs.Formats.{Returned, returned, read}
use Rattle.tbl_reader.specs.HeadLines.{formats_after, formats_said}
use Rattle.tbl_reader.specs.Telling.{Piece, Tells, piece}

-- one byte and then others
pub said_then : {A S : Type 0} (shows : A → S → Type 0) (hears : Piece → S → S) (f g : Formats) (called : Called) (b : ℕ) (bs : List ℕ) (x y z : A)
    → returned g called ≡ read b f → Tells shows hears (piece (tells.Format called) [] ∷ []) x y → Tells shows hears (formats_said g bs) y z
    → Tells shows hears (formats_said f (b ∷ bs)) x z
said_then shows hears f g called b bs x y z e h k =
    subst (λ (t : Returned). Tells shows hears (piece (tells.Format t.called) [] ∷ formats_said t.formats bs) x z) e (λ s w. k _ (h s w))

pub after_then : (f g : Formats) (called : Called) (b : ℕ) (bs : List ℕ) → returned g called ≡ read b f → formats_after f (b ∷ bs) ≡ formats_after g bs
after_then f g called b bs e = ap (λ (t : Returned). formats_after t.formats bs) (sym e)
