-- The last item of a row is the first of the row turned round.
use Rattle.std.proofs.Common.{◌≡◌, ℕ, ◌+◌, ◌<◌, List, [], ◌∷◌, ◌++◌, length, take, drop, reverse, set, get_or, ap, sym, ◌∙◌, arith}
use Rattle.std.proofs.lemmas.List.{take_more, take_all, reverse-append, set_at, length-take-le}
use Rattle.nr_levels.specs.declared.frame.Frame.{Frame}
use Rattle.nr_levels.specs.Moving.{NewestMayGoOn}

-- a list is its items before the last, and the last
split_last : {X : Type 0} (xs : List X) (n : ℕ) (d : X) → n + 1 ≡ length xs → xs ≡ take n xs ++ get_or xs n d ∷ []
split_last xs n d is = sym (take_all (n + 1) xs (omega arith)) ∙ take_more xs n d (omega arith)

without_last : {X : Type 0} (xs : List X) (n : ℕ) (d : X) → n + 1 ≡ length xs → reverse (take n xs) ≡ drop 1 (reverse xs)
without_last xs n d is = sym (ap (λ ys. drop 1 (reverse ys)) (split_last xs n d is) ∙ ap (drop 1) (reverse-append (take n xs) (get_or xs n d ∷ [])))

-- the last item is taken away
pub one_less : {X : Type 0} (xs : List X) (n : ℕ) → n + 1 ≡ length xs → reverse (take n xs) ≡ drop 1 (reverse xs)
one_less [] n is = absurd (omega arith)
one_less (x ∷ xs) n is = without_last (x ∷ xs) n x is

-- it is another
pub new_top : {X : Type 0} (xs : List X) (n : ℕ) (y : X) → n + 1 ≡ length xs → reverse (set xs n y) ≡ y ∷ drop 1 (reverse xs)
new_top xs n y is =
    ap reverse (ap (λ zs. set zs n y) (split_last xs n y is) ∙ set_at (take n xs) (get_or xs n y) [] y n (length-take-le n xs (omega arith)))
    ∙ reverse-append (take n xs) (y ∷ []) ∙ ap (λ ys. y ∷ ys) (without_last xs n y is)

-- it comes first
pub top_is : {X : Type 0} (xs : List X) (n : ℕ) (y : X) → n + 1 ≡ length xs → y ≡ get_or xs n y → reverse xs ≡ y ∷ drop 1 (reverse xs)
top_is xs n y is value =
    ap reverse (split_last xs n y is) ∙ reverse-append (take n xs) (get_or xs n y ∷ []) ∙ ap (λ ys. get_or xs n y ∷ ys) (without_last xs n y is)
    ∙ ap (λ x. x ∷ drop 1 (reverse xs)) (sym value)

-- a row whose first frame may go on has one
pub some_frame : (n : ℕ) (frames : List Frame) → NewestMayGoOn n frames → 0 < length frames
some_frame n [] may = absurd may
some_frame n (f ∷ fs) may = omega arith
