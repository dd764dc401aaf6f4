-- Counts of other letters, among which a cluster is not looked for.
use Rattle.std.proofs.Common.{◌≡◌, ℕ, ◌+◌, ◌-◌, ◌≤◌, List, [], ◌∷◌, length, take, drop, slice_get, Bool, false, ◌==◌, ◌&&◌, if◌then◌else◌, Option, Some, sym, ◌∙◌, ap, subst, arith}
use Rattle.std.proofs.lemmas.List.{drop-drop, length-drop, take_all}
use Rattle.utf8_own_characters.specs.declared.cluster.Cluster.{Cluster}
use Rattle.utf8_own_characters.specs.declared.counting.Count.{Count}
use Rattle.utf8_own_characters.specs.Counting.{count_from}
use Rattle.utf8_own_characters.proofs.Tests.{some_of}

skipped : (k : ℕ) (a x : Count) (xs : List Count) (c : Cluster) (l : ℕ) → Some a ≡ Some x → c.letter ≡ l → (x.cluster.letter == l) ≡ false
    → count_from k (a ∷ xs) c ≡ count_from (k + 1) xs c
skipped k a x xs c l is same other =
    let differs : (a.cluster.letter == c.letter) ≡ false =
    ap (λ (n : ℕ). a.cluster.letter == n) same ∙ ap (λ (y : Count). y.cluster.letter == l) (some_of a x is) ∙ other in
    ap (λ (t : Bool).
    if t && (a.cluster.first_mark == c.first_mark) && (a.cluster.second_mark == c.second_mark) && (a.cluster.third_mark == c.third_mark)
    then Some k else count_from (k + 1) xs c) differs

four_more : (k : ℕ) → k + 1 + 1 + 1 + 1 ≡ k + 4
four_more k = omega arith

pub four_skipped : (xs : List Count) (w x y z : Count) (l : ℕ) → 4 ≤ length xs
    → slice_get xs 0 ≡ Some w → slice_get xs 1 ≡ Some x → slice_get xs 2 ≡ Some y → slice_get xs 3 ≡ Some z
    → (w.cluster.letter == l) ≡ false → (x.cluster.letter == l) ≡ false → (y.cluster.letter == l) ≡ false → (z.cluster.letter == l) ≡ false
    → (k : ℕ) (c : Cluster) → c.letter ≡ l → count_from k xs c ≡ count_from (k + 4) (drop 4 xs) c
four_skipped [] w x y z l long p q r s t u v m k c same = absurd (omega arith)
four_skipped (a ∷ []) w x y z l long p q r s t u v m k c same = absurd (omega arith)
four_skipped (a ∷ b ∷ []) w x y z l long p q r s t u v m k c same = absurd (omega arith)
four_skipped (a ∷ b ∷ d ∷ []) w x y z l long p q r s t u v m k c same = absurd (omega arith)
four_skipped (a ∷ b ∷ d ∷ e ∷ xs) w x y z l long p q r s t u v m k c same =
    skipped k a w (b ∷ d ∷ e ∷ xs) c l p same t
    ∙ skipped (k + 1) b x (d ∷ e ∷ xs) c l q same u
    ∙ skipped (k + 1 + 1) d y (e ∷ xs) c l r same v
    ∙ skipped (k + 1 + 1 + 1) e z xs c l s same m
    ∙ ap (λ (n : ℕ). count_from n xs c) (four_more k)

pub four_passed : (xs : List Count) (n : ℕ) (c : Cluster)
    → count_from n (take (length xs - n) (drop n xs)) c ≡ count_from (n + 4) (drop 4 (take (length xs - n) (drop n xs))) c
    → count_from n (drop n xs) c ≡ count_from (n + 4) (drop (n + 4) xs) c
four_passed xs n c e =
    let rest = length-drop n xs in
    let whole = take_all (length xs - n) (drop n xs) (omega (arith, rest)) in
    ap (λ (ys : List Count). count_from n ys c) (sym whole)
    ∙ e
    ∙ ap (λ (ys : List Count). count_from (n + 4) (drop 4 ys) c) whole
    ∙ ap (λ (ys : List Count). count_from (n + 4) ys c) (drop-drop 4 n xs)

pub few_passed : (xs : List Count) (n : ℕ) → n ≤ length xs → 4 ≤ length (take (length xs - n) (drop n xs)) → n + 4 ≤ length xs
few_passed xs n within long =
    let rest = length-drop n xs in
    let more = subst (λ (ys : List Count). 4 ≤ length ys) (take_all (length xs - n) (drop n xs) (omega (arith, rest))) long in
    omega (arith, rest, more, within)
