-- What is said of what was read.
use Rattle.std.specs.Prelude.{ℕ, List, [], ◌∷◌}
use Rattle.tbl_reader.specs.declared.telling.Tell.{Tell}
use Rattle.tbl_reader.specs.declared.telling.Tell.TheVariants.{Pass, BlockText}

-- what is said, and the text that belongs to it
pub record Piece : Type 0 where
  pub tell : Tell
  pub text : List ℕ

abbrev pub piece : Tell → List ℕ → Piece
piece tell text = record { tell = tell; text = text }

-- each byte of a text by itself
abbrev pub each : Tell → List ℕ → List Piece
each tell [] = []
each tell (b ∷ bs) = piece tell (b ∷ []) ∷ each tell bs

-- what passes, and a text block, are as good as said byte by byte
abbrev pub said : Tell → List ℕ → List Piece
said Pass text = each Pass text
said BlockText text = each BlockText text
said tell text = piece tell text ∷ []

-- what one is who hears these pieces one after the other, where hears says what becomes of one who hears a piece
abbrev pub heard : {S : Type 0} → (Piece → S → S) → List Piece → S → S
heard hears [] s = s
heard hears (p ∷ ps) s = heard hears ps (hears p s)

-- whatever may be known of the first, the second has heard these pieces since
abbrev pub Tells : {A S : Type 0} → (A → S → Type 0) → (Piece → S → S) → List Piece → A → A → Type 0
Tells {A} {S} shows hears pieces old new = (s : S) → shows old s → shows new (heard hears pieces s)
