-- Parts that are joined.
use Rattle.std.proofs.Common.{◌≡◌, ℕ, zero, suc, ◌+◌, ◌<◌, List, [], ◌∷◌, ◌++◌, length, take, drop, get_or, append_assoc, refl, sym, ap, ◌∙◌}
use Rattle.std.proofs.lemmas.List.{append-nil, take_more}
use Rattle.std.specs.Borrow.{Bor}
use Rattle.filters.specs.Lines.{joined}

joined-last : (parts : List (Bor (List ℕ))) (part : Bor (List ℕ)) → joined (parts ++ part ∷ []) ≡ joined parts ++ part.now
joined-last [] part = append-nil part.now
joined-last (p ∷ parts) part = ap (λ bs. p.now ++ bs) (joined-last parts part) ∙ sym (append_assoc p.now (joined parts) part.now)

joined-rest : (parts : List (Bor (List ℕ))) (i : ℕ) → joined parts ≡ joined (take i parts) ++ joined (drop i parts)
joined-rest parts zero = refl
joined-rest [] (suc i) = refl
joined-rest (p ∷ parts) (suc i) = ap (λ bs. p.now ++ bs) (joined-rest parts i) ∙ sym (append_assoc p.now (joined (take i parts)) (joined (drop i parts)))

-- one part more
pub joined-more : (parts : List (Bor (List ℕ))) (i : ℕ) (d : Bor (List ℕ)) → i < length parts → joined (take (i + 1) parts) ≡ joined (take i parts) ++ (get_or parts i d).now
joined-more parts i d within = ap joined (take_more parts i d within) ∙ joined-last (take i parts) (get_or parts i d)

-- those before a part, the part, and those after it
pub joined-at : (parts : List (Bor (List ℕ))) (i : ℕ) (d : Bor (List ℕ)) → i < length parts
    → joined parts ≡ (joined (take i parts) ++ (get_or parts i d).now) ++ joined (drop (i + 1) parts)
joined-at parts i d within = joined-rest parts (i + 1) ∙ ap (λ bs. bs ++ joined (drop (i + 1) parts)) (joined-more parts i d within)
