-- The order of lists of bytes, read from the beginning.
use Rattle.std.proofs.Common.{◌≡◌, ◌≢◌, ℕ, ◌+◌, ◌<◌, min, List, ◌∷◌, length, drop, get_or, refl, ap, ap₂, sym, ◌∙◌, add-one, arith}
use Rattle.std.specs.declared.cmp.Ordering.{Ordering}
use Rattle.std.specs.declared.cmp.Ordering.TheVariants.{Less, Equal, Greater}
use Rattle.std.specs.Ordering.{nat_cmp, ordering_then, MatchOrdering}
use Rattle.std.specs.Cmp.Lexicographic.{slice_cmp}
use Rattle.std.proofs.Math.Seq.{drop-cons}
use Rattle.std.proofs.lemmas.Cmp.{ranked, nat_cmp_total, tied_itself}
use Rattle.std.proofs.lemmas.List.{drop_all}

cons_at : (xs : List ℕ) (i : ℕ) → i < length xs → drop i xs ≡ get_or xs i 0 ∷ drop (i + 1) xs
cons_at xs i below = drop-cons xs i 0 below ∙ ap (λ n. get_or xs i 0 ∷ drop n xs) (sym (add-one i))

-- both begin with these bytes
both_at : (xs ys : List ℕ) (i : ℕ) → i < length xs → i < length ys
    → slice_cmp nat_cmp (drop i xs) (drop i ys) ≡ ordering_then (nat_cmp (get_or xs i 0) (get_or ys i 0)) (slice_cmp nat_cmp (drop (i + 1) xs) (drop (i + 1) ys))
both_at xs ys i h k = ap₂ (slice_cmp nat_cmp) (cons_at xs i h) (cons_at ys i k)

-- the same byte tells nothing
pub order-same : (xs ys : List ℕ) (i : ℕ) → i < length xs → i < length ys → get_or xs i 0 ≡ get_or ys i 0
    → slice_cmp nat_cmp (drop i xs) (drop i ys) ≡ slice_cmp nat_cmp (drop (i + 1) xs) (drop (i + 1) ys)
order-same xs ys i h k same =
    both_at xs ys i h k
    ∙ ap (λ o. ordering_then o (slice_cmp nat_cmp (drop (i + 1) xs) (drop (i + 1) ys))) (ap (nat_cmp (get_or xs i 0)) (sym same) ∙ tied_itself nat_cmp_total (get_or xs i 0))

first_decides : (x y : ℕ) (r later : Ordering) → MatchOrdering r (x < y) (x ≡ y) (y < x) → x ≢ y → ordering_then r later ≡ r
first_decides x y Less later h other = refl
first_decides x y Equal later h other = absurd (other h)
first_decides x y Greater later h other = refl

-- another byte decides
pub order-other : (xs ys : List ℕ) (i : ℕ) → i < length xs → i < length ys → get_or xs i 0 ≢ get_or ys i 0
    → slice_cmp nat_cmp (drop i xs) (drop i ys) ≡ nat_cmp (get_or xs i 0) (get_or ys i 0)
order-other xs ys i h k other =
    both_at xs ys i h k
    ∙ first_decides (get_or xs i 0) (get_or ys i 0) (nat_cmp (get_or xs i 0) (get_or ys i 0)) (slice_cmp nat_cmp (drop (i + 1) xs) (drop (i + 1) ys)) (ranked (get_or xs i 0) (get_or ys i 0) _ refl) other

ends_by : (xs ys : List ℕ) (i : ℕ) (r : Ordering) → MatchOrdering r (length xs < length ys) (length xs ≡ length ys) (length ys < length xs) → i ≡ min (length xs) (length ys)
    → slice_cmp nat_cmp (drop i xs) (drop i ys) ≡ r
ends_by xs ys i Less h is = ap₂ (slice_cmp nat_cmp) (drop_all i xs (omega arith)) (cons_at ys i (omega arith))
ends_by xs ys i Equal h is = ap₂ (slice_cmp nat_cmp) (drop_all i xs (omega arith)) (drop_all i ys (omega arith))
ends_by xs ys i Greater h is = ap₂ (slice_cmp nat_cmp) (cons_at xs i (omega arith)) (drop_all i ys (omega arith))

-- where one ends, the lengths decide
pub order-ends : (xs ys : List ℕ) (i : ℕ) → i ≡ min (length xs) (length ys) → slice_cmp nat_cmp (drop i xs) (drop i ys) ≡ nat_cmp (length xs) (length ys)
order-ends xs ys i is = ends_by xs ys i (nat_cmp (length xs) (length ys)) (ranked (length xs) (length ys) _ refl) is
