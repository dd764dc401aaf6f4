-- Texts of pieces, one after the other.
use Rattle.std.proofs.Common.{◌≡◌, ℕ, ◌+◌, ◌<◌, List, [], ◌∷◌, ◌++◌, length, get_or, take, refl, sym, ap, ◌∙◌, append_assoc, append-nil}
use Rattle.std.proofs.lemmas.List.{take_more}
use Rattle.tbl_drawing.specs.declared.writing.Piece.{Piece}
use Rattle.tbl_drawing.specs.Writing.{piece_text, texts_of}

pub texts_of-append : (ps qs : List Piece) → texts_of (ps ++ qs) ≡ texts_of ps ++ texts_of qs
texts_of-append [] qs = refl
texts_of-append (p ∷ ps) qs = ap (λ l. piece_text p ++ l) (texts_of-append ps qs) ∙ sym (append_assoc (piece_text p) (texts_of ps) (texts_of qs))

pub texts_of_more : (ps : List Piece) (i : ℕ) (d : Piece) → i < length ps → texts_of (take (i + 1) ps) ≡ texts_of (take i ps) ++ piece_text (get_or ps i d)
texts_of_more ps i d below =
    ap texts_of (take_more ps i d below)
    ∙ texts_of-append (take i ps) (get_or ps i d ∷ [])
    ∙ ap (λ l. texts_of (take i ps) ++ l) (append-nil (piece_text (get_or ps i d)))
