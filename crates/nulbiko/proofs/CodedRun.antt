-- What came of a page and what is to come of it are its text.
use Rattle.std.proofs.Common.{◌≡◌, ℕ, ◌<◌, List, [], ◌∷◌, ◌++◌, append-nil, append_assoc, length, take, drop, Option, None, Some, ap, sym, ◌∙◌, arith}
use Rattle.std.proofs.lemmas.List.{take-append-drop}
use Rattle.std.proofs.lemmas.Grind.{common_steps}
use Rattle.nr_units.specs.Source.{Supply}

-- the bytes that are to come, where that is known
abbrev pub bytes_of : Option Supply → List ℕ
bytes_of None = []
bytes_of (Some q) = q.bytes

-- a byte came, and then those at hand
pub came : (all items pushed extended left rest hand after : List ℕ) (byte n : ℕ)
    → all ≡ items ++ left → left ≡ byte ∷ rest → pushed ≡ items ++ (byte ∷ []) → take (length hand) rest ≡ hand → extended ≡ pushed ++ hand
    → n ≡ length hand → after ≡ drop n rest → all ≡ extended ++ after
came all items pushed extended left rest hand after byte n is next push at_hand extend many skip =
    let whole : hand ++ after ≡ rest = ap (λ (z : List ℕ). z ++ after) (sym at_hand) ∙ ap (λ (z : List ℕ). take (length hand) rest ++ z) (skip ∙ ap (λ (k : ℕ). drop k rest) many) ∙ take-append-drop (length hand) rest in
    is ∙ ap (λ (z : List ℕ). items ++ z) (next ∙ ap (λ (z : List ℕ). byte ∷ z) (sym whole))
    ∙ sym (append_assoc items (byte ∷ []) (hand ++ after)) ∙ sym (append_assoc (items ++ (byte ∷ [])) hand after)
    ∙ ap (λ (z : List ℕ). (z ++ hand) ++ after) (sym push) ∙ ap (λ (z : List ℕ). z ++ after) (sym extend)

pub fewer : (left rest after : List ℕ) (byte n : ℕ) → left ≡ byte ∷ rest → after ≡ drop n rest → length after < length left
fewer left rest after byte n next skip = grind (arith, common_steps)

-- nothing is to come
pub ended : (all items left : List ℕ) → all ≡ items ++ left → left ≡ [] → items ≡ all
ended all items left is none = sym (is ∙ ap (λ (z : List ℕ). items ++ z) none ∙ append-nil items)
