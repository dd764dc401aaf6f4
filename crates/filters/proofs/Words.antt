-- Words of the command line.
use Rattle.std.proofs.Common.{◌≡◌, ℕ, zero, suc, ◌<◌, List, [], ◌∷◌, drop, get_or, length, refl, arith}
use Rattle.std.specs.Borrow.{Bor}
use Rattle.filters.specs.Arguments.{texts}

-- the word at a place
pub word-at : (words : List (Bor (List ℕ))) (i : ℕ) (d : Bor (List ℕ)) → i < length words → get_or (texts words) i [] ≡ (get_or words i d).now
word-at [] i d within = absurd (omega arith)
word-at (w ∷ words) zero d within = refl
word-at (w ∷ words) (suc i) d within = word-at words i d (omega arith)

-- those from a place on
pub words-from : (words : List (Bor (List ℕ))) (i : ℕ) → texts (drop i words) ≡ drop i (texts words)
words-from words zero = refl
words-from [] (suc i) = refl
words-from (w ∷ words) (suc i) = words-from words i
