-- Numbers below others, and what both of two have.
use Rattle.std.proofs.Common.{◌≡◌, ◌≢◌, ℕ, ◌+◌, ◌<◌, ◌≤◌, nat_lt, Bool, true, false, refl, arith, inl, inr, if◌then◌else◌}
use Rattle.std.specs.Prelude.{◌⊎◌}
use Rattle.std.proofs.lemmas.Bool.Decides.{nat_tests}

pub below_by : (a b : ℕ) → nat_lt a b ≡ true → a < b
below_by a b h = grind (arith, nat_tests, h)

pub not_below_by : (a b : ℕ) → nat_lt a b ≡ false → b ≤ a
not_below_by a b h = grind (arith, nat_tests, h)

pub below_is : (a b : ℕ) → a < b → nat_lt a b ≡ true
below_is a b h = grind (arith, nat_tests, h)

-- below the next number
pub two : (i n : ℕ) → i < n + 1 → (i < n) ⊎ (i ≡ n)
two i n h = split (nat_lt i n) refl
  where
    split : (b : Bool) → nat_lt i n ≡ b → (i < n) ⊎ (i ≡ n)
    split true e = inl (below_by i n e)
    split false e = inr (let low : n ≤ i = not_below_by i n e in omega (arith, low, h))

pub below_or : (i n : ℕ) → (i < n) ⊎ (n ≤ i)
below_or i n = choose (nat_lt i n) refl
  where
    choose : (b : Bool) → nat_lt i n ≡ b → (i < n) ⊎ (n ≤ i)
    choose true e = inl (below_by i n e)
    choose false e = inr (not_below_by i n e)

pub equal_or : (i n : ℕ) → (i ≡ n) ⊎ (i ≢ n)
equal_or i n =
    elim (below_or i n) [
      | inl less ↦ inr (λ e. omega (arith, less, e))
      | inr least ↦ elim (below_or n i) [
        | inl more ↦ inr (λ e. omega (arith, more, e))
        | inr most ↦ inl (omega (arith, least, most))
      ]
    ]

-- a choice has what both have
pub by_cases : {T : Type 0} (P : T → Type 0) (b : Bool) (x y : T) → (b ≡ true → P x) → (b ≡ false → P y) → P (if b then x else y)
by_cases P true x y h k = h refl
by_cases P false x y h k = k refl
