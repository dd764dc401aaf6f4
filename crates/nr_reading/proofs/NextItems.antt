-- Fronts of lists.
use Rattle.std.proofs.Common.{◌≡◌, ℕ, ◌+◌, ◌-◌, ◌<◌, ◌≤◌, Bool, List, [], ◌∷◌, ◌++◌, length, take, drop, set, min, ap, sym, ◌∙◌, arith}
use Rattle.std.proofs.Math.Seq.{paste}
use Rattle.std.proofs.lemmas.Grind.{common_steps}
use Rattle.std.proofs.lemmas.List.{take-take, take_all, take_min, take-append-le, length-take-le}
use Rattle.std.proofs.lemmas.List.Edits.{take-paste, length-paste}
use Rattle.std.proofs.lemmas.Slice.{between_is}
use Rattle.nr_reading.specs.Noting.{remembered}

-- the first 256 elements
pub take_least : (xs : List ℕ) (n : ℕ) → n ≡ min (length xs) 256 → take n xs ≡ take 256 xs
take_least xs n is = let n_is : n ≡ min 256 (length xs) = omega arith in ap (λ k. take k xs) n_is ∙ take_min 256 xs

-- the first of them before others
pub take_copied : (ys post text : List ℕ) (n : ℕ) → ys ≡ take n text → n ≡ min (length text) 256 → take n (ys ++ post) ≡ take 256 text
take_copied ys post text n copied is =
    let long : length ys ≡ n = ap length copied ∙ length-take-le n text (omega arith) in
    take-append-le n ys post (omega arith) ∙ ap (take n) copied ∙ take-take n n text (omega arith) ∙ take_least text n is

-- 32 elements moved up by one, and another before them
moved_up : (xs : List Bool) → length xs ≡ 32 → paste xs 1 (drop 0 xs) 31 ≡ take 1 xs ++ take 31 (drop 0 xs)
moved_up xs long =
    sym (take_all 32 (paste xs 1 (drop 0 xs) 31) (omega (arith, length-paste xs 1 (drop 0 xs) 31 (omega arith) (omega arith))))
    ∙ take-paste xs 1 (drop 0 xs) 31 (omega arith) (omega arith)

put_before : (xs : List Bool) (y : Bool) → length xs ≡ 32 → set (paste xs 1 (drop 0 xs) 31) 0 y ≡ y ∷ take 31 xs
put_before [] y long = absurd (omega arith)
put_before (x ∷ xs) y long = ap (λ (zs : List Bool). set zs 0 y) (moved_up (x ∷ xs) long)

-- one answer more is remembered
pub remembered_more : (xs : List Bool) (n : ℕ) (y : Bool) → length xs ≡ 32 → n < 32 → take (n + 1) (set (paste xs 1 (drop 0 xs) 31) 0 y) ≡ remembered y (take n xs)
remembered_more xs n y long few =
    ap (take (n + 1)) (put_before xs y long)
    ∙ first y n (take 31 xs)
    ∙ ap (λ (zs : List Bool). y ∷ zs) (take-take n 31 xs (omega arith) ∙ sym (take_all 31 (take n xs) (omega (arith, length-take-le n xs (omega arith)))))
  where
    first : (y : Bool) (n : ℕ) (zs : List Bool) → take (n + 1) (y ∷ zs) ≡ y ∷ take n zs
    first y n zs = grind (arith, common_steps)

-- the oldest of 32 is forgotten
pub remembered_full : (xs : List Bool) (n : ℕ) (y : Bool) → length xs ≡ 32 → n ≡ 32 → take n (set (paste xs 1 (drop 0 xs) 31) 0 y) ≡ remembered y (take n xs)
remembered_full xs n y long full =
    rw full (ap (take 32) (put_before xs y long)
    ∙ ap (λ (zs : List Bool). y ∷ zs) (take-take 31 31 xs (omega arith) ∙ sym (take-take 31 32 xs (omega arith))))

-- the newest is taken
pub forgotten : (xs : List Bool) (n : ℕ) → length xs ≡ 32 → n ≤ 32 → take (n - 1) (paste xs 0 (drop 1 xs) 31) ≡ drop 1 (take n xs)
forgotten xs n long few =
    sym (take-take (n - 1) 31 (paste xs 0 (drop 1 xs) 31) (omega arith))
    ∙ ap (take (n - 1)) (take-paste xs 0 (drop 1 xs) 31 (omega arith) (rest xs long))
    ∙ take-take (n - 1) 31 (drop 1 xs) (omega arith) ∙ between_is xs 1 n
  where
    rest : (xs : List Bool) → length xs ≡ 32 → 31 ≤ length (drop 1 xs)
    rest xs long = grind (arith, common_steps)
