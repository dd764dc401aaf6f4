-- The letters of a number, written from the last on.
use Rattle.std.specs.Prelude.{slice_set, ◌==◌}
use Rattle.std.proofs.Common.{◌≡◌, ℕ, zero, suc, ◌+◌, ◌-◌, ◌/◌, ◌%◌, ◌<◌, ◌≤◌, List, ◌∷◌, length, drop, refl, ap, ◌∙◌, add-one, arith, false, ◌^◌}
use Rattle.std.proofs.lemmas.List.{drop-set, drop_all}
use Rattle.std.proofs.lemmas.Bool.{ne_eqb}
use Rattle.nr_units.specs.NumberText.{letters_before, letters, alphabetic_text}

is_not_none : (n : ℕ) → 0 < n → (n == 0) ≡ false
is_not_none n some = ne_eqb n 0 (λ is. absurd (omega arith))

-- one letter more stands before the others
pub letters_step : (start before rest : ℕ) (row : List ℕ) → 0 < start → 0 < rest → start ≤ length row
    → letters_before (start - 1) before ((rest - 1) / 26) (drop (start - 1) (slice_set row (start - 1) (before + 1 + (rest - 1) % 26))) ≡ letters_before start before rest (drop start row)
letters_step zero before rest row some left within = absurd (omega arith)
letters_step (suc s) before rest row some left within =
    let is : suc s - 1 ≡ s = omega arith in
    let x = before + 1 + (rest - 1) % 26 in
    let none : (rest == 0) ≡ false = is_not_none rest left in
    rw (is, none) (ap (λ (ys : List ℕ). letters_before s before ((rest - 1) / 26) ys) (drop-set row s x (omega arith) ∙ ap (λ (k : ℕ). x ∷ drop k row) (add-one s)))

-- there are letters to come as long as something is left
pub letters_left : (start rest : ℕ) → rest < 26 ^ start → 0 < rest → 0 < start
letters_left zero rest below left = omega arith
letters_left (suc s) rest below left = omega arith

-- before the first of them
pub letters_none : (before n : ℕ) (row : List ℕ) → length row ≡ 14 → letters_before 14 before n (drop 14 row) ≡ letters before n
unfolding letters
letters_none before n row long = ap (λ (ys : List ℕ). letters_before 14 before n ys) (drop_all 14 row (omega arith))

-- after the last
pub letters_all : (start before rest : ℕ) (more : List ℕ) → rest ≤ 0 → letters_before start before rest more ≡ more
letters_all zero before rest more none = refl
letters_all (suc s) before rest more none = let is : rest ≡ 0 = omega arith in rw is refl

pub letters_text : (before n : ℕ) → (n ≡ 0 → ⊥) → letters before n ≡ alphabetic_text before n
letters_text before n some = let none : (n == 0) ≡ false = is_not_none n (omega arith) in rw none refl
