-- What a test of a character says.
use Rattle.std.proofs.Common.{◌≡◌, ℕ, true, ◌==◌, arith}
use Rattle.std.proofs.lemmas.Bool.Decides.{nat_tests}

pub is_one : (c x : ℕ) → (c == x) ≡ true → c ≡ x
is_one c x p = grind (arith, nat_tests)
