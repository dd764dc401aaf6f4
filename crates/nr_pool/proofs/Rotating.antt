-- The first elements of a list go after the others one by one.
use Rattle.std.proofs.Common.{◌≡◌, ℕ, zero, suc, ◌<◌, List, [], ◌∷◌, ◌++◌, length, take, drop, refl, ap, sym, ◌∙◌, arith}
use Rattle.std.proofs.lemmas.List.{append_assoc}

-- the element after the first i
record NextIs {A : Type 0} (i : ℕ) (xs : List A) : Type 0 where
  next : A
  afterwards : drop i xs ≡ next ∷ drop (suc i) xs
  before : take (suc i) xs ≡ take i xs ++ next ∷ []

next_is : {A : Type 0} (i : ℕ) (xs : List A) → i < length xs → NextIs i xs
next_is i [] less = absurd (omega (arith, less))
next_is zero (x ∷ xs) less = record { next = x; afterwards = refl; before = refl }
next_is (suc i) (x ∷ xs) less =
    let more = next_is i xs (omega (arith, less)) in record {
      next = more.next;
      afterwards = more.afterwards;
      before = ap (λ ys. x ∷ ys) more.before;
    }

pub rotated_next : {A : Type 0} (i : ℕ) (xs : List A) → i < length xs → drop 1 (drop i xs ++ take i xs) ++ take 1 (drop i xs ++ take i xs) ≡ drop (suc i) xs ++ take (suc i) xs
rotated_next {A} i xs less =
    let n = next_is i xs less in
    let all : drop i xs ++ take i xs ≡ n.next ∷ (drop (suc i) xs ++ take i xs) = ap (λ ys. ys ++ take i xs) n.afterwards in
    ap (λ (ys : List A). drop 1 ys ++ take 1 ys) all
    ∙ append_assoc (drop (suc i) xs) (take i xs) (n.next ∷ [])
    ∙ ap (λ ys. drop (suc i) xs ++ ys) (sym n.before)
