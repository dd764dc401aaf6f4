-- Which of two lists a test chooses.
use Rattle.std.proofs.Common.{◌≡◌, ℕ, ◌<◌, Bool, true, false, ◌==◌, List, [], refl, arith, if◌then◌else◌}
use Rattle.std.proofs.lemmas.Bool.Decides.{nat_tests}

pub chosen : {A : Type 0} (b : Bool) (xs ys : List A) → b ≡ true → (if b then xs else ys) ≡ xs
chosen true xs ys h = refl
chosen false xs ys h = cc

pub other : {A : Type 0} (b : Bool) (xs ys : List A) → b ≡ false → (if b then xs else ys) ≡ ys
other true xs ys h = cc
other false xs ys h = refl

above_zero : (n : ℕ) → 0 < n → (n == 0) ≡ false
above_zero n h = grind (arith, nat_tests)

-- none of nothing
pub some_of : {A : Type 0} (n : ℕ) (xs : List A) → 0 < n → (if n == 0 then [] else xs) ≡ xs
some_of n xs h = other (n == 0) [] xs (above_zero n h)

pub other_of : {A : Type 0} (n : ℕ) (xs ys : List A) → 0 < n → (if n == 0 then xs else ys) ≡ ys
other_of n xs ys h = other (n == 0) xs ys (above_zero n h)

-- which of two values
pub taken : {A : Type 0} (b : Bool) (x y : A) → b ≡ true → (if b then x else y) ≡ x
taken true x y h = refl
taken false x y h = cc

pub left : {A : Type 0} (b : Bool) (x y : A) → b ≡ false → (if b then x else y) ≡ y
left true x y h = cc
left false x y h = refl
