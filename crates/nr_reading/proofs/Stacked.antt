-- A stack in an array, the newest last.
use Rattle.std.proofs.Common.{◌≡◌, ℕ, ◌+◌, ◌<◌, List, [], ◌∷◌, length, take, drop, reverse, get_or, ap, sym, ◌∙◌, arith}
use Rattle.std.proofs.lemmas.List.{take_more, reverse-append}

one_less_by : {T : Type 0} (xs : List T) (n m : ℕ) (d : T) → n < length xs → n + 1 ≡ m → reverse (take n xs) ≡ drop 1 (reverse (take m xs))
one_less_by xs n m d within is =
    sym (ap (λ k. drop 1 (reverse (take k xs))) (sym is) ∙ ap (λ ys. drop 1 (reverse ys)) (take_more xs n d within) ∙ ap (drop 1) (reverse-append (take n xs) (get_or xs n d ∷ [])))

-- without the newest
pub one_less : {T : Type 0} (xs : List T) (n m : ℕ) → n < length xs → n + 1 ≡ m → reverse (take n xs) ≡ drop 1 (reverse (take m xs))
one_less [] n m within is = absurd (omega arith)
one_less (x ∷ xs) n m within is = one_less_by (x ∷ xs) n m x within is
