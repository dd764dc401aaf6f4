-- What the first numbers give together, with the next one.
use Rattle.std.proofs.Common.{◌≡◌, ℕ, zero, suc, ◌+◌, ◌-◌, ◌<◌, Bool, true, false, ◌||◌, List, [], ◌∷◌, ◌++◌, refl, ap, ◌∙◌, add-one, arith}
use Rattle.tbl_drawing.specs.Pens.{Stroke, Bytes}
use Rattle.tbl_drawing.specs.Sequences.{joined, some_below}
use Rattle.tbl_drawing.specs.Tapes.{Tape, Draws}
use Rattle.tbl_drawing.proofs.Tapes.{draws_both, draws_same, draws_then}

pub joined_more : {A : Type 0} (n : ℕ) (given : ℕ → List A) → joined (n + 1) given ≡ joined n given ++ given n
joined_more {A} n given = ap (λ m. joined m given) (add-one n)

pub bytes_as : {a b : Tape} {xs ys : List ℕ} → Draws a b (Bytes ys ∷ []) → xs ≡ ys → Draws a b (Bytes xs ∷ [])
bytes_as {a} {b} {xs} {ys} d same = draws_same d (ap (λ l. Bytes l ∷ []) same)

-- bytes
pub bytes_more : {a b c : Tape} (n : ℕ) (given : ℕ → List ℕ) → Draws a b (Bytes (joined n given) ∷ []) → Draws b c (Bytes (given n) ∷ [])
    → Draws a c (Bytes (joined (n + 1) given) ∷ [])
bytes_more {a} {b} {c} n given p q = draws_same (draws_both p q) (ap (λ l. Bytes l ∷ []) (joined_more n given))

-- strokes
pub strokes_more : {a b c : Tape} (n : ℕ) (given : ℕ → List Stroke) → Draws a b (joined n given) → Draws b c (given n)
    → Draws a c (joined (n + 1) given)
strokes_more {a} {b} {c} n given p q = draws_same (draws_then p q) (joined_more n given)

-- ---- one of them is so

or_true : (b : Bool) → (b || true) ≡ true
or_true true = refl
or_true false = refl

or_left : (a b : Bool) → a ≡ true → (a || b) ≡ true
or_left true b h = refl
or_left false b h = cc

pub some_more : (n : ℕ) (given : ℕ → Bool) → some_below (n + 1) given ≡ (some_below n given || given n)
some_more n given = ap (λ m. some_below m given) (add-one n)

pub none_more : (n : ℕ) (given : ℕ → Bool) → some_below n given ≡ false → given n ≡ false → some_below (n + 1) given ≡ false
none_more n given none isnt = some_more n given ∙ ap (λ b. b || given n) none ∙ isnt

some_up : (m n k : ℕ) (given : ℕ → Bool) → k ≡ n + 1 + m → given n ≡ true → some_below k given ≡ true
some_up zero n k given far is =
    let e : k ≡ n + 1 = omega arith in
    ap (λ i. some_below i given) e ∙ some_more n given ∙ ap (λ b. some_below n given || b) is ∙ or_true (some_below n given)
some_up (suc m) n k given far is =
    let e : k ≡ n + 1 + m + 1 = omega arith in
    ap (λ i. some_below i given) e ∙ some_more (n + 1 + m) given
    ∙ or_left (some_below (n + 1 + m) given) (given (n + 1 + m)) (some_up m n (n + 1 + m) given refl is)

pub some_at : (n k : ℕ) (given : ℕ → Bool) → n < k → given n ≡ true → some_below k given ≡ true
some_at n k given below is =
    let e : k ≡ n + 1 + (k - (n + 1)) = omega arith in
    some_up (k - (n + 1)) n k given e is

-- where the last number is reported by another
pub some_in : (n k m : ℕ) (given : ℕ → Bool) → m ≡ k → n < m → given n ≡ true → some_below k given ≡ true
some_in n k m given same below is = rw (← same) (some_at n m given below is)
