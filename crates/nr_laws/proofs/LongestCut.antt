-- What is cut of the pieces is the longest prefix that fits.
use Rattle.std.proofs.lemmas.Bool.{cases_lt}
use Rattle.std.proofs.Common.{◌≡◌, ℕ, zero, suc, ◌<◌, ◌≤◌, Bool, true, false, if◌then◌else◌, List, length, refl, subst, inl, inr, arith}
use Rattle.nr_fill.specs.Piece.{Piece}
use Rattle.nr_fill.specs.Cutting.{fits, most_that_fit, cut}
use Rattle.nr_laws.specs.FilledText.{CutIsLongest, CutFits}

-- of n pieces and one more, by whether they fit
longest_if : (line : ℕ) (ps : List Piece) (n k : ℕ) (b : Bool) → fits line (suc n) ps ≡ b → (if b then suc n else most_that_fit line ps n) < k → k ≤ suc n
    → (most_that_fit line ps n < k → k ≤ n → fits line k ps ≡ false) → fits line k ps ≡ false
longest_if line ps n k true is above below fewer = absurd (omega arith)
longest_if line ps n k false is above below fewer = elim (cases_lt k (suc n)) [
  | inl less ↦ fewer above (omega arith)
  | inr more ↦ (let e : suc n ≡ k = omega arith in subst (λ j. fits line j ps ≡ false) e is)
]

longest : (line : ℕ) (ps : List Piece) (n k : ℕ) → most_that_fit line ps n < k → k ≤ n → fits line k ps ≡ false
longest line ps zero k above below = absurd (omega arith)
longest line ps (suc n) k above below =
    longest_if line ps n k (fits line (suc n) ps) refl above below (longest line ps n k)

fits_if : (line : ℕ) (ps : List Piece) (n : ℕ) (b : Bool) → fits line (suc n) ps ≡ b → 0 < (if b then suc n else most_that_fit line ps n)
    → (0 < most_that_fit line ps n → fits line (most_that_fit line ps n) ps ≡ true) → fits line (if b then suc n else most_that_fit line ps n) ps ≡ true
fits_if line ps n true is some fewer = is
fits_if line ps n false is some fewer = fewer some

most_fits : (line : ℕ) (ps : List Piece) (n : ℕ) → 0 < most_that_fit line ps n → fits line (most_that_fit line ps n) ps ≡ true
most_fits line ps zero some = absurd (omega arith)
most_fits line ps (suc n) some = fits_if line ps n (fits line (suc n) ps) refl some (most_fits line ps n)

pub cut_is_longest : CutIsLongest
cut_is_longest line ps n above below = longest line ps (length ps) n (omega arith) below

pub cut_fits : CutFits
cut_fits line ps some =
    let most : most_that_fit line ps (length ps) ≡ cut line ps = omega arith in
    subst (λ n. fits line n ps ≡ true) most (most_fits line ps (length ps) (omega arith))
