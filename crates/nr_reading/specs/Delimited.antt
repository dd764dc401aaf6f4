-- Arguments between delimiters.
use Rattle.std.specs.Prelude.{ℕ, nat_lt, if◌then◌else◌, List, [], ◌∷◌, length}
use Rattle.nr_reading.specs.Kept.{kept}

-- those that are half read, the newest first, and the one that ended last, if none began after it
pub record Texts : Type 0 where
  pub begun : List (List ℕ)
  pub last : List ℕ

abbrev pub no_texts : Texts
no_texts = record { begun = []; last = [] }

-- another begins; there is room for ten: one of an escape in the text, and nine widths, one in the other
abbrev pub begun_text : Texts → Texts
begun_text t = if nat_lt (length t.begun) 10 then record { begun = [] ∷ t.begun; last = [] } else t

abbrev pub with_byte_in : ℕ → List (List ℕ) → List (List ℕ)
with_byte_in b [] = []
with_byte_in b (text ∷ texts) = kept b text ∷ texts

-- a byte of the newest: its first 256 count
abbrev pub with_text_byte : ℕ → Texts → Texts
with_text_byte b t = record t { begun = with_byte_in b t.begun }

abbrev pub ended_of : List (List ℕ) → Texts → Texts
ended_of [] t = t
ended_of (text ∷ texts) t = record { begun = texts; last = text }

-- the newest ends
abbrev pub ended_text : Texts → Texts
ended_text t = ended_of t.begun t
